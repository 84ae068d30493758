use Rattle.mrp_api_tests.proofs.FrameFacts as proved
use Rattle.mrp_api_tests.proofs.worked.frames_reach.Goals as goal

pub returns-clause-whole : goal.returns-clause-whole
returns-clause-whole c = proved.frames_are_whole

pub returns-clause-report : goal.returns-clause-report
returns-clause-report c = proved.frames_reach
