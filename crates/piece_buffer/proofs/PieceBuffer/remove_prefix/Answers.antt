use Rattle.std.proofs.Common.{◌≡◌, ℕ, ◌+◌, ◌-◌, ◌≤◌, List, take, drop, length, ap, sym, ◌∙◌, arith, length-drop, length-take}
use lib.Seq.{paste}
use Rattle.std.specs.List.{copy_within}
use Rattle.std.proofs.lemmas.List.{drop-take}
use Rattle.std.proofs.lemmas.List.Edits.{take-paste}
use Rattle.piece_buffer.proofs.PieceBuffer.remove_prefix.Goals as goal

-- the bytes that are moved to the start of a list are those after its first n
moved : (xs : List ℕ) (len n : ℕ) → n ≤ len → len ≤ length xs → take (len - n) (copy_within xs n len 0) ≡ drop n (take len xs)
moved xs len n within fits =
    let left = len - n in
    let rest : left ≤ length (drop n xs) = omega (arith, length-drop n xs) in
    let same : left ≡ 0 + left = omega arith in
    let whole : len ≡ n + left = omega arith in
    ap (λ k. take k (paste xs 0 (drop n xs) left)) same ∙ take-paste xs 0 (drop n xs) left (omega arith) rest
    ∙ sym (ap (λ k. drop n (take k xs)) whole ∙ drop-take n left xs)

pub returns : goal.returns
returns c =
    let all = c.self.inside.bytes in
    let within : c.args.count ≤ c.self.inside.len = omega (arith, c.requires, ap length c.self.view_is, length-take c.self.inside.len all) in
    ap (take (c.self.inside.len - c.args.count)) c.copy_within.ensures.after
    ∙ moved all c.self.inside.len c.args.count within (omega (arith, c.self.invariant.0, c.self.invariant.1))
    ∙ ap (drop c.args.count) c.self.view_is
