-- Internal: no public contract cites this.
-- The frames as a stack stores them, and the room that each leaves for the frames above it.
use Rattle.std.specs.Prelude.{List, [], length, ℕ, ◌%◌, ◌*◌, ◌++◌, ◌+◌, ◌-◌, ◌^◌, ◌∷◌, ◌≤◌}
use Rattle.demangle_v0_parser.specs.declared.frames.Frame.{Frame}
use Rattle.demangle_v0_parser.specs.declared.frames.PackedFrame.{PackedFrame}

-- The room on a stack: each frame leaves room for all frames that can ever be above it.

module _ {F : Type 0} (height : F → ℕ) where
  -- room in a stack of n frames; a frame's height is how many frames can ever be at its position and above
  unfoldable pub HasRoom : ℕ → List F → Type 0
  HasRoom n [] = Unit {0}
  HasRoom n (f ∷ above) = (height f ≤ n) × HasRoom (n - 1) above

  -- a parse is at a continuation of this height, for which there is room above the stack
  pub record HasRoomAbove (n high : ℕ) (stack : List F) : Type 0 where
    pub room : HasRoom n stack
    pub above : high + length stack ≤ n

-- The frames as a stack stores them.

abbrev pub packed_frame : PackedFrame → Frame
packed_frame p = record { continuation = p.continuation; in_value = p.in_value; letter = p.letter % 256; depth_left = p.depth_left; number = p.high * 2 ^ 64 + p.low }

-- A stack: its frames, of which the last is the top, and how many it has room for.

pub record Stack : Type 0 where
  pub frames : List Frame
  pub room : ℕ

-- with a further frame
abbrev pub on_top : Stack → Frame → Stack
on_top stack f = record stack { frames = stack.frames ++ f ∷ [] }
