-- In each state an event of a script has one answer, and leads to one state.
use Rattle.std.proofs.Common.{◌≡◌, Result, Ok, Err, refl, ap, sym, ◌∙◌}
use Rattle.px_ops.specs.declared.refusal.Refusal.{Refusal}
use Rattle.px_cluster.specs.Cluster.{Cluster}
use Rattle.px_cluster.specs.Events.{Event as Happening}
use Rattle.px_cluster.proofs.OneRun.{step_is_one}
use Rattle.script_run.specs.Machine.{IsDetermined}
use Rattle.script_rules.specs.Machine.{Leads, machine, told}
use Rattle.script_rules.specs.Resolved.{resolved}
use Rattle.script_rules.specs.declared.answer.Answer.{Answer}
use Rattle.script_rules.specs.declared.answer.Answer.TheVariants.{Replied, Done, Voted, Refs, Snapshot, Last}

-- answers that are told alike are one answer
told_is_one : (a b : Answer) → told a ≡ told b → a ≡ b
told_is_one (Replied a) (Replied b) same = (let is : a ≡ b = cc in ap Replied is)
told_is_one Done Done same = refl
told_is_one (Voted a) (Voted b) same = (let is : a ≡ b = cc in ap Voted is)
told_is_one (Refs a) (Refs b) same = (let is : a ≡ b = cc in ap Refs is)
told_is_one (Snapshot r o) (Snapshot s p) same =
    let refs : r ≡ s = cc in
    let objects : o ≡ p = cc in
    λ i. Snapshot (refs i) (objects i)
told_is_one (Last a) (Last b) same = (let is : a ≡ b = cc in ap Last is)
told_is_one (Replied a) Done same = absurd (cc)
told_is_one (Replied a) (Voted b) same = absurd (cc)
told_is_one (Replied a) (Refs b) same = absurd (cc)
told_is_one (Replied a) (Snapshot s p) same = absurd (cc)
told_is_one (Replied a) (Last b) same = absurd (cc)
told_is_one Done (Replied b) same = absurd (cc)
told_is_one Done (Voted b) same = absurd (cc)
told_is_one Done (Refs b) same = absurd (cc)
told_is_one Done (Snapshot s p) same = absurd (cc)
told_is_one Done (Last b) same = absurd (cc)
told_is_one (Voted a) (Replied b) same = absurd (cc)
told_is_one (Voted a) Done same = absurd (cc)
told_is_one (Voted a) (Refs b) same = absurd (cc)
told_is_one (Voted a) (Snapshot s p) same = absurd (cc)
told_is_one (Voted a) (Last b) same = absurd (cc)
told_is_one (Refs a) (Replied b) same = absurd (cc)
told_is_one (Refs a) Done same = absurd (cc)
told_is_one (Refs a) (Voted b) same = absurd (cc)
told_is_one (Refs a) (Snapshot s p) same = absurd (cc)
told_is_one (Refs a) (Last b) same = absurd (cc)
told_is_one (Snapshot r o) (Replied b) same = absurd (cc)
told_is_one (Snapshot r o) Done same = absurd (cc)
told_is_one (Snapshot r o) (Voted b) same = absurd (cc)
told_is_one (Snapshot r o) (Refs b) same = absurd (cc)
told_is_one (Snapshot r o) (Last b) same = absurd (cc)
told_is_one (Last a) (Replied b) same = absurd (cc)
told_is_one (Last a) Done same = absurd (cc)
told_is_one (Last a) (Voted b) same = absurd (cc)
told_is_one (Last a) (Refs b) same = absurd (cc)
told_is_one (Last a) (Snapshot s p) same = absurd (cc)

one_leads : (old new then_ : Cluster) (asked : Result Happening Refusal) (a b : Answer)
    → Leads old asked (told a) new → Leads old asked (told b) then_ → (a ≡ b) × (new ≡ then_)
one_leads old new then_ (Ok happening) a b d e =
    let one = step_is_one old new then_ happening (told a) (told b) d e in
    (told_is_one a b one.0, one.1)
one_leads old new then_ (Err why) a b d e = (told_is_one a b (d.0 ∙ sym e.0), d.1 ∙ sym e.1)

pub one_answer : IsDetermined machine
one_answer old new then_ event a b d e =
    one_leads old new then_ (resolved old.core event) a b d e
