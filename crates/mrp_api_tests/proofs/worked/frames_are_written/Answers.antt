use Rattle.mrp_api_tests.proofs.FrameFacts as proved
use Rattle.mrp_api_tests.proofs.worked.frames_are_written.Goals as goal

pub returns : goal.returns
returns c = proved.frames_are_written
