use Rattle.std.proofs.Common.{◌≡◌, ◌++◌, ◌∙◌, List, subst, sym}
use Rattle.px_cluster.specs.Plan.{numbered}
use Rattle.replqueue.specs.Marks.{KeepsAll}
use Rattle.replqueue.specs.Queue.{Queued}
use Rattle.replqueue.specs.declared.mark.Mark.{Mark}
use Rattle.replqueue.proofs.Ends.{done_so, failed_so}
use Rattle.replqueue.proofs.Numbered.{follow_ascend}
use Rattle.replqueue.proofs.Upkeep.{kept_appended, kept_marked}
use Rattle.replqueue.proofs.queue.Queue.append.Goals as goal

-- no mark is lost where none changes
same_marks : (marks : List Mark) → KeepsAll marks marks
same_marks marks line number is = is

pub invariant_of-self : goal.invariant_of-self
invariant_of-self c =
    kept_marked c.self.inside.rows c.self.inside.last c.self.inside.pairs c.self.inside.targets
    c.self.inside.running c.mark_each.new.marks c.self.inside.targets c.self.inside.running
    c.mark_each.ensures.others (same_marks c.self.inside.targets) (same_marks c.self.inside.running)
    c.self.invariant

pub invariant_of-self-then-is_err-2 : goal.invariant_of-self-then-is_err-2
invariant_of-self-then-is_err-2 c =
    kept_marked c.self.inside.rows c.self.inside.last c.self.inside.pairs c.self.inside.targets
    c.self.inside.running c.mark_each.new.marks c.mark_each-2.new.marks c.self.inside.running
    c.mark_each.ensures.others c.mark_each-2.ensures.others (same_marks c.self.inside.running)
    c.self.invariant

pub push_all-requires : goal.push_all-requires
push_all-requires c =
    let follow : numbered c.self.inside.last c.args.jobs.now ≡ c.args.jobs.now =
    subst (λ (queue : Queued). numbered queue.last c.args.jobs.now ≡ c.args.jobs.now)
    (sym c.self.view_is) c.requires.numbers in
    follow_ascend c.self.inside.last c.self.inside.rows c.args.jobs.now c.self.invariant.ascend
    c.self.invariant.given follow

pub invariant_of-self-then-is_err-3 : goal.invariant_of-self-then-is_err-3
invariant_of-self-then-is_err-3 c =
    let same : c.push_all.new.self ≡ c.self.inside.rows =
    failed_so c.push_all.result (sym c.is_err-3.ensures.value ∙ c.if-is_err-3.true)
    c.push_all.ensures.err in
    rw same (kept_marked c.self.inside.rows c.self.inside.last c.self.inside.pairs
    c.self.inside.targets c.self.inside.running c.mark_each.new.marks c.mark_each-2.new.marks
    c.self.inside.running
    c.mark_each.ensures.others c.mark_each-2.ensures.others (same_marks c.self.inside.running)
    c.self.invariant)

pub invariant_of-self-2 : goal.invariant_of-self-2
invariant_of-self-2 c =
    let jobs = c.args.jobs.now in
    let follow : numbered c.self.inside.last jobs ≡ jobs =
    subst (λ (queue : Queued). numbered queue.last jobs ≡ jobs) (sym c.self.view_is)
    c.requires.numbers in
    let come : c.push_all.new.self ≡ c.self.inside.rows ++ jobs =
    done_so c.push_all.result (sym c.is_err-3.ensures.value ∙ c.if-is_err-3.false)
    c.push_all.ensures.ok in
    rw c.last_of-self-inside.ensures (kept_appended c.self.inside.rows jobs c.push_all.new.self
    c.self.inside.last
    c.self.inside.pairs c.self.inside.targets c.self.inside.running c.mark_each.new.marks
    c.mark_each-2.new.marks
    come c.push_all.ensures.ascend follow c.requires.ready c.mark_each.ensures.others
    c.mark_each-2.ensures.others
    (done_so c.mark_each.result (sym c.is_err.ensures.value ∙ c.if-is_err.false)
    c.mark_each.ensures.marked)
    (done_so c.mark_each-2.result (sym c.is_err-2.ensures.value ∙ c.if-is_err-2.false)
    c.mark_each-2.ensures.marked)
    c.self.invariant)
