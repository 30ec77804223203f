use Rattle.cluster_form.proofs.FormKept.{turns_always}
use Rattle.cluster_form.proofs.laws.an_open_push_is_a_vote_of_its_members.Goals as goal

pub returns : goal.returns
returns c = turns_always
