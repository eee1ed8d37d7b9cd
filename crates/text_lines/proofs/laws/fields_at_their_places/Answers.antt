use Rattle.text_lines.proofs.ReadBack.{read_back}
use Rattle.text_lines.proofs.laws.fields_at_their_places.Goals as goal

pub returns : goal.returns
returns c = read_back
