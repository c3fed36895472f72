-- The bytes of the word take the place of as many.
use mathlib.Core.Path.{◌≡◌, sym, ◌∙◌}
use mathlib.Core.List.{append_assoc}
use Prim.Native.Nat.{◌+◌, ◌-◌}
use native.Mathlib.Omega.{arith}
use lib.Seq.{sets-eq, drop-drop}
use Rattle.desk.specs.Desk.{little_endian}
use Rattle.desk.proofs.LittleEndian.{eight_bytes, little_endian_length}
use Rattle.desk.proofs.words.write_word.Goals as goal

pub returns : goal.returns
returns c =
    let bytes : c.copy_from_slice.new.self ≡ little_endian 8 c.args.word =
    c.copy_from_slice.ensures.after ∙ c.to_le_bytes.ensures ∙ eight_bytes c.args.word in
    let size : c.args.at + 8 - c.args.at ≡ 8 = omega arith in
    rw (size, bytes, drop-drop)
    (sym (rw (little_endian_length, append_assoc) at (sets-eq (little_endian 8 c.args.word) c.args.out.now c.args.at
    (omega (arith, little_endian_length 8 c.args.word)))))
