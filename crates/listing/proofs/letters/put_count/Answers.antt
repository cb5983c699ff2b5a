-- `listing::letters::put_count` puts the word, and then the number. Assumes nothing.
use Rattle.std.proofs.Common.{◌∙◌, sym, append_assoc, arith}
use Rattle.std.proofs.lemmas.Fmt.{length-decimal-le}
use Rattle.listing.proofs.Decimals.{in_ten_digits}
use Rattle.listing.proofs.letters.put_count.Goals as goal

pub put_number-requires : goal.put_number-requires
put_number-requires g c = omega (arith, length-decimal-le 10 c.args.value (omega arith) (omega arith) (omega arith))

pub returns-clause-puts : goal.returns-clause-puts
returns-clause-puts g c =
    c.put_number.ensures.puts ∙ simp (c.push_str.ensures.bytes, sym (in_ten_digits c.args.value (omega arith)), append_assoc)
