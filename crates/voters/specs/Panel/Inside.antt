-- What a panel keeps.
use Rattle.std.specs.Prelude.{◌≡◌, sum_by}
use Rattle.voters.specs.Marks.{voter_weight}
use Rattle.voters.specs.Panel.{IsPanel}
use Rattle.voters.specs.declared.panel.Panel.TheInside.{Inside}

pub record IsPanelKept (a : Inside) : Type 0 where
  pub panel : IsPanel a.voters.items a.threshold
  pub total : a.total ≡ sum_by voter_weight a.voters.items
