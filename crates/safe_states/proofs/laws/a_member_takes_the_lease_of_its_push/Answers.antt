use Rattle.safe_states.proofs.Conditions.{a_member_takes_the_lease_of_its_push}
use Rattle.safe_states.proofs.laws.a_member_takes_the_lease_of_its_push.Goals as goal

pub returns : goal.returns
returns c = a_member_takes_the_lease_of_its_push
