use Rattle.refstore.proofs.After.{after_fits, after_others}
use Rattle.refstore.proofs.laws.each_name_is_set_or_taken_away.Goals as goal

pub returns : goal.returns
returns c = record {
  listed = λ refs updates list fits at update stands.
      after_fits refs updates list.ordered fits at update stands;
  others = λ refs updates list name apart. after_others refs updates list.ordered name apart;
}
