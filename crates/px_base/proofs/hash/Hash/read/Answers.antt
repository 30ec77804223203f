use Rattle.std.proofs.Common.{◌≡◌, true, false, refl, sym, ◌∙◌}
use Rattle.std.proofs.lemmas.Bool.{false≢true}
use Rattle.std.proofs.lemmas.List.Sums.{list_all-from_AllPass}
use Rattle.std.specs.List.{list_all}
use Rattle.px_base.specs.Hash.{IsHashText, is_hex_digit}
use Rattle.px_base.proofs.HexText.{lawful_when_read, never_refused, no_hash_when_refused, reads_hash}
use Rattle.px_base.proofs.hash.Hash.read.Goals as goal

pub returns-then-not-has_digits_alone : goal.returns-then-not-has_digits_alone
returns-then-not-has_digits_alone c =
    let text = c.args.text.now in
    let some : list_all is_hex_digit text ≡ false = sym c.has_digits_alone.ensures ∙ c.if-not-has_digits_alone.true in
    record {
      value = tt;
      is = rw some refl;
      lawful = tt;
      refused = λ lawful. false≢true (sym some ∙ list_all-from_AllPass is_hex_digit text lawful.digits);
    }

pub returns-in-Ok : goal.returns-in-Ok
returns-in-Ok c =
    let text = c.args.text.now in
    let known = c.decode_to_slice.ensures.value in
    let all : list_all is_hex_digit text ≡ true = sym c.has_digits_alone.ensures ∙ c.if-not-has_digits_alone.false in
    let lawful : IsHashText text = lawful_when_read text c.decode_to_slice.new.out c.decode_to_slice.result all known c.in-Ok.is in
    let read = reads_hash text c.decode_to_slice.new.out c.decode_to_slice.result lawful known in
    record { value = read.1; is = read.2; lawful = lawful; refused = tt }

pub returns-in-Err : goal.returns-in-Err
returns-in-Err c =
    let text = c.args.text.now in
    let known = c.decode_to_slice.ensures.value in
    let all : list_all is_hex_digit text ≡ true = sym c.has_digits_alone.ensures ∙ c.if-not-has_digits_alone.false in
    record {
      value = tt;
      is = sym (no_hash_when_refused text c.decode_to_slice.new.out c.decode_to_slice.result c.in-Err.field-0 all known c.in-Err.is);
      lawful = tt;
      refused = λ lawful. never_refused c.decode_to_slice.result c.in-Err.field-0
          (reads_hash text c.decode_to_slice.new.out c.decode_to_slice.result lawful known).0 c.in-Err.is;
    }
