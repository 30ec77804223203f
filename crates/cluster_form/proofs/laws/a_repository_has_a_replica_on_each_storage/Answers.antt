use Rattle.cluster_form.proofs.FormKept.{books_always}
use Rattle.cluster_form.proofs.laws.a_repository_has_a_replica_on_each_storage.Goals as goal

pub returns : goal.returns
returns c = books_always
