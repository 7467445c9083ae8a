-- How far the references of a v0 symbol lead back.
use Rattle.std.specs.Prelude.{ℕ, ◌+◌, ◌-◌, ◌≤◌, true, List, length, Some, None}
use Rattle.demangle_v0_grammar.specs.Items.{a_path}
use Rattle.demangle_v0_grammar.specs.Reading.{Place, Tree, nothing, piece, plain_piece, node, looked, unprinted, referred, invalid_syntax, too_deep, after_error, Form, read_at}

-- the bytes from a place to the end of what is read from there; after an error, those up to the end of the symbol of n
-- bytes, and one more
abbrev pub reach : (n i : ℕ) → Place → ℕ
reach n i None = n + 1 - i
reach n i (Some j) = j - i

-- How far a reference leads back. The arguments are: the place that it names, the place after the reference, and the
-- place after what is read at the former.
abbrev pub Distance : Type 0
Distance = ℕ → Place → Place → ℕ

-- from the end of the reference back to its target
abbrev pub led_back : Distance
led_back t None end = 0
led_back t (Some j) end = j - t

-- from the end of the target back to the end of the reference, if the target is read beyond it
abbrev pub beyond : ℕ → Distance
beyond n t None end = 0
beyond n t (Some j) end = reach n j end

-- both: all that reading goes back for a reference
abbrev pub read_again : ℕ → Distance
read_again n t j end = led_back t j end + beyond n t j end

-- from the end of the symbol back to the target, whatever is read there
abbrev pub up_to_end : ℕ → Distance
up_to_end n t j end = n + 1 - t

abbrev pub no_distance : Distance
no_distance t j end = 0

-- the distances of all references that a tree follows
abbrev pub again : Distance → Tree → ℕ
again d nothing = 0
again d (piece t rest) = again d rest
again d (plain_piece t rest) = again d rest
again d (node inside rest) = again d inside + again d rest
again d (looked k rest) = again d rest
again d (unprinted inside rest) = again d inside + again d rest
again d (referred t j end inside) = d t j end + again d inside
again d invalid_syntax = 0
again d too_deep = 0
again d after_error = 0

-- a target is read without an error, and up to the end of its reference at most
abbrev pub EndsBefore : Place → Place → Type 0
EndsBefore end None = ⊥
EndsBefore None (Some j) = ⊥
EndsBefore (Some e) (Some j) = e ≤ j

-- each target of a tree is
abbrev pub OnlyBack : Tree → Type 0
OnlyBack nothing = Unit {0}
OnlyBack (piece t rest) = OnlyBack rest
OnlyBack (plain_piece t rest) = OnlyBack rest
OnlyBack (node inside rest) = OnlyBack inside × OnlyBack rest
OnlyBack (looked k rest) = OnlyBack rest
OnlyBack (unprinted inside rest) = OnlyBack inside × OnlyBack rest
OnlyBack (referred t j end inside) = EndsBefore end j × OnlyBack inside
OnlyBack invalid_syntax = Unit {0}
OnlyBack too_deep = Unit {0}
OnlyBack after_error = Unit {0}

-- how far reading goes back in all, while the first path of a symbol prints
unfoldable pub path_again : List ℕ → Form → ℕ
path_again symbol form = again (read_again (length symbol)) (read_at symbol form.fold_arguments true a_path 0 0 0 true).tree
