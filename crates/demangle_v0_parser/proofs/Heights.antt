-- There is room for each frame that is pushed.
use Rattle.std.specs.Prelude.{ℕ, ◌+◌, ◌-◌, ◌≤◌, length}
use Rattle.std.proofs.Common.{List, [], ◌∷◌, ◌++◌, arith, length-append}
use Rattle.demangle_v0_parser.specs.Frames.{HasRoom, HasRoomAbove}

module _ {F : Type 0} (height : F → ℕ) where
  room_push : (n : ℕ) (stack : List F) (f : F) → HasRoom height n stack → height f + length stack ≤ n → HasRoom height n (stack ++ f ∷ [])
  unfolding HasRoom
  room_push n [] f h k = (omega arith, tt)
  room_push n (g ∷ stack) f h k = (h.0, room_push (n - 1) stack f h.1 (omega arith))

  room_below : (n : ℕ) (stack : List F) (f : F) → HasRoom height n (stack ++ f ∷ []) → HasRoom height n stack
  unfolding HasRoom
  room_below n [] f h = tt
  room_below n (g ∷ stack) f h = (h.0, room_below (n - 1) stack f h.1)

  -- the top frame has room in a stack that is not too long
  room_top : (n : ℕ) (stack : List F) (f : F) → HasRoom height n (stack ++ f ∷ []) → length stack ≤ n → height f + length stack ≤ n
  unfolding HasRoom
  room_top n [] f h k = let l : height f ≤ n = h.0 in omega arith
  room_top n (g ∷ stack) f h k = let l = room_top (n - 1) stack f h.1 (omega arith) in omega arith

  -- the first continuation, above no frame
  pub stands_first : (n high : ℕ) → high ≤ n → HasRoomAbove height n high []
  unfolding HasRoom
  stands_first n high l = record { room = tt; above = omega arith }

  -- the next continuation is no higher than the one before it
  pub has_room_on : (n high new : ℕ) (stack : List F) → HasRoomAbove height n high stack → new ≤ high → HasRoomAbove height n new stack
  has_room_on n high new stack s l = record { room = s.room; above = omega (arith, s.above, l) }

  -- a frame was pushed
  pub stands_push : (n high new : ℕ) (stack : List F) (f : F) → HasRoomAbove height n high stack → height f ≤ high → new + 1 ≤ high → HasRoomAbove height n new (stack ++ f ∷ [])
  stands_push n high new stack f s outer inner = record {
    room = room_push n stack f s.room (omega (arith, s.above, outer));
    above = omega (arith, s.above, inner, length-append {A = F} stack (f ∷ []));
  }

  -- the production is complete, and the frame on top resumes at a continuation that is no higher
  pub stands_resumed : (n high new : ℕ) (stack : List F) (f : F) → HasRoomAbove height n high (stack ++ f ∷ []) → new ≤ height f → HasRoomAbove height n new stack
  stands_resumed n high new stack f s l =
      let low : length stack ≤ n = omega (arith, s.above, length-append {A = F} stack (f ∷ [])) in
      record { room = room_below n stack f s.room; above = omega (arith, l, room_top n stack f s.room low) }
