-- An operation that issues nothing, as an event of the cluster.
use Rattle.std.proofs.Common.{◌≡◌, ℕ, true, false, not, Bool, Option, None, Some, refl, sym, ap, subst, ◌∙◌}
use Rattle.std.specs.Option.{IsSome, option_or}
use Rattle.px_base.specs.declared.phase.Phase.TheVariants.{Prepared, Committed}
use Rattle.px_ops.specs.declared.op.Op.{Op}
use Rattle.px_ops.specs.declared.op.Op.TheVariants as op
use Rattle.px_ops.specs.declared.refusal.Refusal.{Refusal}
use Rattle.px_ops.specs.declared.refusal.Refusal.TheVariants.{NotAcked}
use Rattle.px_ops.specs.declared.reply.Reply.{Reply}
use Rattle.node_calls.specs.ReplicaState.{NodeState}
use Rattle.issued.specs.Entries.{Entries}
use Rattle.nodes.specs.State.{NodesState}
use Rattle.px_cluster.specs.Acknowledged.{done_in, event_refusal, is_answered}
use Rattle.px_cluster.specs.Cluster.{Cluster}
use Rattle.px_cluster.specs.Core.{Core}
use Rattle.px_cluster.specs.Events.{Asks, Replied}
use Rattle.px_cluster.specs.Issues.{issues}
use Rattle.px_cluster.specs.Ops.{answer_of, left_by, next_core, refusal_of, reply_of, told, unless_refused}
use Rattle.px_cluster.specs.Refusals.{cause}
use Rattle.px_cluster.specs.Step.{Step}
use Rattle.script_rules.specs.Machine.{told as tells}
use Rattle.script_rules.specs.declared.answer.Answer.{Answer}
use Rattle.px_world.specs.Asked.{IsAdmission, not_acked}
use Rattle.px_world.specs.Plain.{IsPlain}
use Rattle.px_world.specs.World.{world}

-- ---- where the nodes gave the answer that it tells of

none_or : (answered : Bool) → (own : Option Refusal) → answered ≡ true
    → option_or own (cause (not answered) NotAcked) ≡ own
none_or true None is = refl
none_or true (Some why) is = refl
none_or false own is = absurd (let z : false ≡ true = is in cc)

-- the cluster with another core
abbrev with_core : Cluster → Core → Cluster
with_core cluster core = record cluster { core = core }

leads_alone : (cluster : Cluster) (asked : Op) (own : Option Refusal)
    → issues cluster asked ≡ cluster
    → with_core cluster (unless_refused own cluster.core (left_by cluster.core asked))
    ≡ unless_refused own cluster (done_in cluster asked)
leads_alone cluster asked None none =
    ap (λ c. with_core c (left_by cluster.core asked)) (sym none)
leads_alone cluster asked (Some why) none = refl

module _ (core new : Core) (nodes : NodesState) (was : Entries) (asked : Op) (answer : Reply)
    (replied : answer ≡ reply_of core asked) (leads : new ≡ next_core core asked) where
  abbrev here : Cluster
  here = world core nodes was

  pub answered_happens : is_answered here asked ≡ true → issues here asked ≡ here
      → Step here (Asks asked) (Replied answer) (world new nodes was)
  answered_happens answered none =
      let own : event_refusal here asked ≡ refusal_of core asked =
      none_or (is_answered here asked) (refusal_of core asked) answered in record {
        replied = ap Replied replied
            ∙ ap (λ r. Replied (told r (answer_of core asked))) (sym own);
        leads = ap (with_core here) leads
            ∙ leads_alone here asked (refusal_of core asked) none
            ∙ ap (λ r. unless_refused r here (done_in here asked)) (sym own);
      }

  -- what it issues is issued, where nothing refuses it
  pub issuing_happens : (now : Entries) → refusal_of core asked ≡ None
      → is_answered here asked ≡ true → world core nodes now ≡ issues here asked
      → Step here (Asks asked) (Replied answer) (world new nodes now)
  issuing_happens now accepted answered issued =
      let own : event_refusal here asked ≡ refusal_of core asked =
      none_or (is_answered here asked) (refusal_of core asked) answered in
      let none : event_refusal here asked ≡ None = own ∙ accepted in
      let left : next_core core asked ≡ left_by core asked =
      ap (λ r. unless_refused r core (left_by core asked)) accepted in record {
        replied = ap Replied replied
            ∙ ap (λ r. Replied (told r (answer_of core asked))) (sym own);
        leads = (λ i. with_core (issued i) ((leads ∙ left) i))
            ∙ ap (λ r. unless_refused r here (done_in here asked)) (sym none);
      }

  -- where it is refused, nothing is issued
  pub refused_happens : is_answered here asked ≡ true → IsSome (refusal_of core asked)
      → Step here (Asks asked) (Replied answer) (world new nodes was)
  refused_happens answered refused = by (refusal_of core asked) refl refused
    where
      own : event_refusal here asked ≡ refusal_of core asked
      own = none_or (is_answered here asked) (refusal_of core asked) answered

      by : (why : Option Refusal) → refusal_of core asked ≡ why → IsSome why
          → Step here (Asks asked) (Replied answer) (world new nodes was)
      by None is some = absurd (let z : false ≡ true = some in cc)
      by (Some why) is some = record {
        replied = ap Replied replied
            ∙ ap (λ r. Replied (told r (answer_of core asked))) (sym own);
        leads = ap (with_core here) (leads
            ∙ ap (λ r. unless_refused r core (left_by core asked)) is)
            ∙ ap (λ r. unless_refused r here (done_in here asked)) (sym (own ∙ is));
      }

-- ---- where they did not give it: what refuses the operation comes first

none_given : (given : Bool) → (own : Option Refusal) → given ≡ false
    → option_or own (cause (not given) NotAcked) ≡ option_or own (Some NotAcked)
none_given true own is = absurd (let z : true ≡ false = is in cc)
none_given false own is = refl

pub not_answered : (cluster : Cluster) (asked : Op) (answer : Answer)
    → is_answered cluster asked ≡ false → answer ≡ not_acked (refusal_of cluster.core asked)
    → Step cluster (Asks asked) (tells answer) cluster
not_answered cluster asked answer answered is =
    by (refusal_of cluster.core asked) is
    (none_given (is_answered cluster asked) (refusal_of cluster.core asked) answered)
  where
    by : (own : Option Refusal) → answer ≡ not_acked own
        → event_refusal cluster asked ≡ option_or own (Some NotAcked)
        → Step cluster (Asks asked) (tells answer) cluster
    by None told_so refuses = record {
      replied = ap tells told_so
          ∙ ap (λ r. Replied (told r (answer_of cluster.core asked))) (sym refuses);
      leads = ap (λ r. unless_refused r cluster (done_in cluster asked)) (sym refuses);
    }
    by (Some why) told_so refuses = record {
      replied = ap tells told_so
          ∙ ap (λ r. Replied (told r (answer_of cluster.core asked))) (sym refuses);
      leads = ap (λ r. unless_refused r cluster (done_in cluster asked)) (sym refuses);
    }

-- ---- operations that speak of no node

plain_answered : (cluster : Cluster) (asked : Op) → IsPlain asked
    → is_answered cluster asked ≡ true
plain_answered cluster (op.Enrol repo storage lease) is = absurd is
plain_answered cluster (op.Cast tx voter Prepared hash) is = refl
plain_answered cluster (op.Cast tx voter Committed hash) is = absurd is
plain_answered cluster (op.Ack job lease true) is = absurd is
plain_answered cluster (op.Ack job lease false) is = refl
plain_answered cluster (op.Accept repo storage lease) is = absurd is
plain_answered cluster (op.Settle repo storage lease last) is = absurd is
plain_answered cluster other is = refl

plain_issues : (cluster : Cluster) (asked : Op) → IsPlain asked
    → issues cluster asked ≡ cluster
plain_issues cluster (op.Create virt path factor) is = absurd is
plain_issues cluster (op.Begin repo) is = absurd is
plain_issues cluster (op.Collect tx voter sub) is = absurd is
plain_issues cluster (op.Dequeue target now) is = absurd is
plain_issues cluster (op.AcceptBegin repo storage) is = absurd is
plain_issues cluster (op.SettleBegin repo storage) is = absurd is
plain_issues cluster other is = refl

pub plain_happens : (core new : Core) (nodes : NodesState) (was : Entries) (asked : Op)
    (answer : Reply) → answer ≡ reply_of core asked → new ≡ next_core core asked
    → IsPlain asked
    → Step (world core nodes was) (Asks asked) (Replied answer) (world new nodes was)
plain_happens core new nodes was asked answer replied leads is =
    answered_happens core new nodes was asked answer replied leads
    (plain_answered (world core nodes was) asked is)
    (plain_issues (world core nodes was) asked is)

-- ---- the taking in of a storage

admission_answered : (cluster : Cluster) (asked : Op) → IsAdmission asked
    → is_answered cluster asked ≡ true
admission_answered cluster (op.Admit virt name) is = refl
admission_answered cluster other is = absurd is

admission_issues : (cluster : Cluster) (asked : Op) → IsAdmission asked
    → issues cluster asked ≡ cluster
admission_issues cluster (op.Admit virt name) is = refl
admission_issues cluster other is = absurd is

-- its node, if there is one now, has nothing
pub admission_happens : (core new : Core) (nodes now : NodesState) (was : Entries) (asked : Op)
    (answer : Reply) → answer ≡ reply_of core asked → new ≡ next_core core asked
    → IsAdmission asked → now.node ≡ nodes.node
    → Step (world core nodes was) (Asks asked) (Replied answer) (world new now was)
admission_happens core new nodes now was asked answer replied leads is same =
    subst (λ (node : ℕ → NodeState). Step (world core nodes was) (Asks asked) (Replied answer)
    (record (world new nodes was) { node = node })) (sym same)
    (answered_happens core new nodes was asked answer replied leads
    (admission_answered (world core nodes was) asked is)
    (admission_issues (world core nodes was) asked is))
