use Rattle.std.specs.Prelude.{map, min, take}
use Rattle.std.proofs.Common.{◌≡◌, ◌≤◌, List, arith, ap, length, refl, sym, ◌∙◌, ℕ}
use Rattle.std.proofs.lemmas.List.{length-take, take-map, take-take, take_min}
use Rattle.demangle_v0_parser.specs.Frames.{packed_frame}
use Rattle.demangle_v0_parser.proofs.frames.FrameStack.truncate.Goals as goal

-- the lowest n of the lowest m items
lowest : {X : Type 0} (m n k : ℕ) (xs : List X) → k ≡ min m n → m ≤ length xs → take k xs ≡ take n (take m xs)
lowest m n k xs e h =
    let within : take k (take m xs) ≡ take k xs = take-take k m xs (omega arith) in
    let all : k ≡ min n (length (take m xs)) = omega (arith, length-take m xs) in
    sym within ∙ (ap (λ (i : ℕ). take i (take m xs)) all ∙ take_min n (take m xs))

pub returns : goal.returns
returns c =
    let s = c.self.inside in
    let frames : map packed_frame (take c.min-self-inside.result s.memory.now) ≡ take c.args.count (map packed_frame (take s.len s.memory.now)) =
    ap (map packed_frame) (lowest s.len c.args.count c.min-self-inside.result s.memory.now c.min-self-inside.ensures c.self.invariant) ∙ sym (take-map packed_frame c.args.count (take s.len s.memory.now)) in
    rw (← c.self.view_is, frames) refl
