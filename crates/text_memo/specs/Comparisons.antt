use Rattle.std.specs.Prelude.{ℕ, ◌+◌}
use Rattle.text_memo.specs.declared.comparisons.Unary.{Unary, Zero, More'}

-- the number that a unary number represents
abbrev pub height : Unary → ℕ
height Zero = 0
height (More' _ below) = height below + 1
