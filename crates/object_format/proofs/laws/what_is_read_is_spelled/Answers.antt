use Rattle.object_format.proofs.FirstBad.{read_is_spelled, spelled_is_read}
use Rattle.object_format.proofs.laws.what_is_read_is_spelled.Goals as goal

pub returns : goal.returns
returns c = λ kind ids content. (spelled_is_read kind ids content, read_is_spelled kind ids content)
