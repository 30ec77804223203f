use Rattle.std.proofs.Common.{arith}
use Rattle.std.proofs.lemmas.List.Sums.{sum-map}
use Rattle.voters.specs.Marks.{voter_weight}
use Rattle.voters.proofs.laws.panels_give_polls.Goals as goal

pub returns : goal.returns
returns c = λ panel is. record {
  reachable = omega (arith, sum-map voter_weight panel.voters, is.reachable);
  most = omega (arith, sum-map voter_weight panel.voters, is.most);
}
