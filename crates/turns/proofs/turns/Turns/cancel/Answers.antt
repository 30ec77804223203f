use Rattle.std.proofs.Common.{◌≡◌, ◌∙◌, None, Some, rules, refl, ap, sym}
use Rattle.std.specs.BTreeMap.{is_at}
use Rattle.std.specs.Map.{lookup, set_value, values_of}
use Rattle.std.specs.Ordering.{nat_cmp}
use Rattle.turns.specs.Turns.{canceled}
use Rattle.turns.proofs.Changes.{kept_changed}
use Rattle.turns.proofs.Pushes.{changed_is, found_push, none_changed}
use Rattle.turns.proofs.turns.Turns.cancel.Goals as goal
use Rattle.turns.proofs.turns.Turns.cancel.Goals.{in-Some, in_default}

pub invariant_of-self : goal.invariant_of-self
invariant_of-self c =
    let es = c.self.inside.pushes.entries in
    elim c.match-get_mut.branch [
      | in-Some w ↦
          (let there : lookup (is_at (nat_cmp c.args.tx.0)) es ≡ Some w.in-Some.push.now = search rules in
          let is : c.match-get_mut.self-inside.pushes.entries ≡ set_value (is_at (nat_cmp c.args.tx.0)) es (canceled w.in-Some.push.now) = search rules in
          let stay : c.match-get_mut.self-inside.holders.entries ≡ c.self.inside.holders.entries = search rules in
          rw (is, stay) (kept_changed c.args.tx.0 es c.self.inside.holders.entries w.in-Some.push.now (canceled w.in-Some.push.now) c.self.invariant there refl refl))
      | in_default w ↦ search rules
    ]

pub returns : goal.returns
returns c =
    let es = c.self.inside.pushes.entries in
    elim c.match-get_mut.branch [
      | in-Some w ↦
          (let there : lookup (is_at (nat_cmp c.args.tx.0)) es ≡ Some w.in-Some.push.now = search rules in
          let is : c.match-get_mut.self-inside.pushes.entries ≡ set_value (is_at (nat_cmp c.args.tx.0)) es (canceled w.in-Some.push.now) = search rules in
          rw (← c.self.view_is) (ap values_of is ∙ changed_is c.args.tx.0 canceled es w.in-Some.push.now c.self.invariant.numbers c.self.invariant.ascend there))
      | in_default w ↦
          (let none : lookup (is_at (nat_cmp c.args.tx.0)) es ≡ None = search rules in
          let same : c.match-get_mut.self-inside.pushes.entries ≡ es = search rules in
          rw (← c.self.view_is) (ap values_of same ∙ sym (none_changed c.args.tx.0 canceled (values_of es) (sym (found_push c.args.tx.0 es c.self.invariant.numbers) ∙ none))))
    ]
