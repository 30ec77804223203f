use Rattle.std.proofs.Common.{◌≡◌, false, rules, sym}
use Rattle.px_cluster.specs.Casts.{is_told}
use Rattle.px_core.proofs.Told.{not_told}
use Rattle.px_core.proofs.bookings.tell_late.Goals as goal

pub returns-else-is_told : goal.returns-else-is_told
returns-else-is_told c =
    let none : is_told c.args.push.now c.args.now.now c.in-Some.storage.0 ≡ false = search rules in
    let stays = not_told c.args.push.now c.args.now.now c.in-Some.storage.0 c.args.entry.now none in
    search (rules, sym stays)
