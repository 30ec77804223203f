use Rattle.cluster_runs.proofs.Conditions.{confirmers_are_in_doubt, late_voters_are_at, members_are_at, one_has_confirmed}
use Rattle.cluster_runs.proofs.laws.the_book_is_ready_for_votes.Goals as goal

pub returns : goal.returns
returns c = record {
  members = members_are_at;
  late = late_voters_are_at;
  confirmers = confirmers_are_in_doubt;
  first = one_has_confirmed;
}
