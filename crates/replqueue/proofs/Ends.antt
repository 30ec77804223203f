-- What follows where a call succeeded, and where it failed.
use Rattle.std.proofs.Common.{◌≡◌, true, false, Result, Ok, Err}
use Rattle.std.specs.Result.{OnErr, OnOk, is_err}

pub failed_so : {A E P : Type 0} (result : Result A E) → is_err result ≡ true → OnErr result P → P
failed_so (Ok value) is so = absurd (let no : false ≡ true = is in cc)
failed_so (Err why) is so = so

pub done_so : {A E P : Type 0} (result : Result A E) → is_err result ≡ false → OnOk result P → P
done_so (Ok value) is so = so
done_so (Err why) is so = absurd (let no : true ≡ false = is in cc)
