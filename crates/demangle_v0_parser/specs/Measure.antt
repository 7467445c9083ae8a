-- Internal: no public contract cites this.
-- The termination measure, the height of the stack, and the number of lifetimes in scope.
use Rattle.std.specs.Prelude.{Bool, List, None, Option, Some, [], false, true, ℕ, ◌*◌, ◌+◌, ◌<◌, ◌^◌, ◌∷◌, ◌≡◌, ◌≤◌}
use Rattle.demangle_v0_grammar.specs.Reading.{Form, max_depth}
use Rattle.demangle_v0_grammar.specs.LookTotals.{allowed_in}
use Rattle.demangle_v0_parser.specs.declared.Continuation.{Continuation}
use Rattle.demangle_v0_parser.specs.declared.Continuation.TheVariants as continuation
use Rattle.demangle_v0_parser.specs.declared.frames.Frame.{Frame}
use Rattle.demangle_v0_parser.specs.declared.State.{State}
use Rattle.demangle_v0_parser.specs.Continuations.{spec_of}
use Rattle.demangle_v0_parser.specs.Traces.{remaining_trace}

-- whether a continuation can run without output, which follows no back reference
abbrev pub is_inner : Continuation → Bool
is_inner continuation.AfterBackref = false
is_inner _ = true

abbrev pub IsInner : Option Frame → Type 0
IsInner None = Unit {0}
IsInner (Some f) = is_inner f.continuation ≡ true

abbrev pub AllInner : List Frame → Type 0
AllInner [] = Unit {0}
AllInner (f ∷ above) = (is_inner f.continuation ≡ true) × AllInner above

-- The termination measure, the greatest height of frames, and the lifetimes in scope.

abbrev pub weight_at : Continuation → ℕ
weight_at p = (spec_of p false 0).weight

abbrev pub weight_of : Option Frame → ℕ
weight_of None = 0
weight_of (Some f) = weight_at f.continuation + 1

-- the weight of what is next; none if the production is complete
abbrev pub weight_left : Continuation → ℕ
weight_left continuation.End = 0
weight_left p = weight_at p

abbrev pub weights : List Frame → ℕ
weights [] = 0
weights (f ∷ above) = weight_at f.continuation + 1 + weights above

abbrev pub measure : List ℕ → Form → Bool → Continuation → State → List Frame → ℕ
measure b form out p s stack = weight_left p + weights stack + 100 * allowed_in (remaining_trace b form out p s stack).events

abbrev pub height_at : Continuation → ℕ → ℕ
height_at continuation.End left = 0
height_at continuation.AfterBackref left = 1
height_at p left = 8 * left + (spec_of p false 0).above

abbrev pub height_of : Option Frame → ℕ
height_of None = 0
height_of (Some f) = height_at f.continuation f.depth_left

abbrev pub count_of : Option Frame → ℕ
count_of None = 0
count_of (Some f) = 1

-- the most frames on a stack: eight at each depth, and eight more at the outermost
abbrev pub most_frames : ℕ
most_frames = 8 * max_depth + 8

abbrev pub primitives_at : Continuation → ℕ
primitives_at p = (spec_of p false 0).words

-- the number of binders that may follow at the continuation's own depth
abbrev pub binders_at : Continuation → ℕ
binders_at continuation.DynBinder = 1
binders_at _ = 0

abbrev pub most_lifetimes : ℕ
most_lifetimes = 2 ^ 64 * max_depth

-- each remaining depth may have a binder, of at most 2^64 - 1 lifetimes
abbrev pub Fits : Continuation → ℕ → ℕ → Type 0
Fits continuation.End left n = Unit {0}
Fits continuation.AfterBackref left n = n < 2 ^ 64
Fits p left n = n + 2 ^ 64 * (left + binders_at p) ≤ most_lifetimes

abbrev pub FitsFrame : Option Frame → Type 0
FitsFrame None = Unit {0}
FitsFrame (Some f) = Fits f.continuation f.depth_left f.number
