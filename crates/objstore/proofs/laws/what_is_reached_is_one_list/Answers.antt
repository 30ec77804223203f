use Rattle.objstore.proofs.ReachedLemmas.{one_list, has_reachable, only_reachable}
use Rattle.objstore.proofs.laws.what_is_reached_is_one_list.Goals as goal

pub returns : goal.returns
returns c = record {
  one = λ objects tips found other first second. one_list objects tips found other first second;
  all = λ objects tips found reached id object reach has.
      has_reachable objects tips found reached id object reach has;
  only = λ objects tips found reached object stands.
      only_reachable objects tips found reached object stands;
}
