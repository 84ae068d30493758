use Rattle.mrp_api_tests.proofs.FrameFacts as proved
use Rattle.mrp_api_tests.proofs.worked.frames_have_an_end.Goals as goal

pub returns-clause-whole : goal.returns-clause-whole
returns-clause-whole c = proved.frames_are_uncut

pub returns-clause-cut : goal.returns-clause-cut
returns-clause-cut c = proved.frames_are_cut

pub returns-clause-usual : goal.returns-clause-usual
returns-clause-usual c = proved.frames_need_no_end
