use Rattle.std.proofs.Common.{◌≡◌, List, ℕ, ap, sym, subst}
use Rattle.std.specs.Option.{is_some}
use Rattle.genbook.specs.Index.{Puts, PutsAt, StaysAt}
use Rattle.genbook.proofs.IndexLemmas.{OnErr-on, OnOk-on, puts_at, stays_below}
use Rattle.genbook.proofs.index.put_below.Goals as goal

pub returns-in-Some-clause-ok : goal.returns-in-Some-clause-ok
returns-in-Some-clause-ok c =
    let old = c.args.paths.now.entries in
    let new = (c.get_mut.follows.lender c.put_path.new.below).entries in
    let below = c.in-Some.below.now in
    let after = c.put_path.new.below in
    let outer = ((c.get_mut.follows.holds after).3 (sym (ap is_some c.in-Some.ensures.value))).0 in
    OnOk-on (Puts below.entries after.entries c.args.path c.args.number) (PutsAt old new c.args.virt.now c.args.path c.args.number) c.put_path.result
    (λ puts. subst (λ (v : List ℕ). PutsAt old new v c.args.path c.args.number) c.of-key.ensures
    (puts_at old new c.of-key.result after outer below (sym c.in-Some.ensures.value) c.args.path c.args.number puts))
    c.put_path.ensures.ok

pub returns-in-Some-clause-err : goal.returns-in-Some-clause-err
returns-in-Some-clause-err c =
    let old = c.args.paths.now.entries in
    let new = (c.get_mut.follows.lender c.put_path.new.below).entries in
    let below = c.in-Some.below.now in
    let after = c.put_path.new.below in
    let outer = ((c.get_mut.follows.holds after).3 (sym (ap is_some c.in-Some.ensures.value))).0 in
    OnErr-on (after.entries ≡ below.entries) (StaysAt old new) c.put_path.result
    (λ kept. stays_below old new c.of-key.result after outer below (sym c.in-Some.ensures.value) kept)
    c.put_path.ensures.err
