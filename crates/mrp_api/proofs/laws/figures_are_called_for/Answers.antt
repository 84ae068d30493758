use Rattle.mrp_api.proofs.FigureFacts as proved
use Rattle.mrp_api.proofs.laws.figures_are_called_for.Goals as goal

pub returns : goal.returns
returns c = proved.figures_are_called_for
