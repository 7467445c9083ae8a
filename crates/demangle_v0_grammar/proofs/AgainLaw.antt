-- The law on looks and distances: the looks are at most 17 for each byte that is read, where a byte counts as often as
-- reading goes back over it.
use Rattle.std.specs.Prelude.{ℕ, zero, suc, ◌≤◌, ◌*◌, ◌&&◌}
use Rattle.std.proofs.Common.{◌≡◌, Bool, true, false, List, [], ◌∷◌, ◌++◌, length, Some, None, refl, ◌∙◌, ◌+◌, ◌-◌, subst, sym, arith}
use Rattle.demangle_v0_grammar.specs.Items.{Text, Kind, a_path}
use Rattle.demangle_v0_grammar.specs.LookBudget.{LookCost, bytes_of, looks_of}
use Rattle.demangle_v0_grammar.specs.Reading.{Tree, nothing, piece, plain_piece, node, looked, unprinted, referred, costs_of, Place, Outcome, Form, max_depth, read_at}
use Rattle.demangle_v0_grammar.specs.ValidationLooks.{looks_in}
use Rattle.demangle_v0_grammar.specs.Traces.{Event, text_if, events}
use Rattle.demangle_v0_grammar.specs.LookTotals.{allowed_in}
use Rattle.demangle_v0_grammar.specs.Again.{reach, Distance, led_back, beyond, read_again, up_to_end, no_distance, again, path_again, EndsBefore, OnlyBack}
use Rattle.demangle_v0_grammar.proofs.BudgetRules.{IsWithinBudget-whole}
use Rattle.demangle_v0_grammar.specs.Spelling.{Spells}
use Rattle.demangle_v0_grammar.specs.Table.{items}
use Rattle.demangle_v0_grammar.proofs.ParsedIsSpelled.{rule}
use Rattle.demangle_v0_grammar.proofs.SpelledIsParsed.{spells_read}
use Rattle.demangle_v0_grammar.proofs.FailedRows.{allowed_append, allowed_looks}
use Rattle.demangle_v0_grammar.proofs.ItemBudgets.{start}
use Rattle.demangle_v0_grammar.proofs.ItemLooks.{small}
use Rattle.demangle_v0_grammar.proofs.LooksLaw.{bytes_append}
use Rattle.demangle_v0_grammar.proofs.AgainItems.{work_of, same_looks, Goes, Covers, loan, Within, read_goes}

-- The distances.

-- the work has the distances of the tree
again_bytes : (before after back : Distance) (t : Tree) → bytes_of (work_of before after back t) ≡ again before t + again after t
again_bytes before after back nothing = refl
again_bytes before after back (piece t rest) = again_bytes before after back rest
again_bytes before after back (plain_piece t rest) = again_bytes before after back rest
again_bytes before after back (node x y) = omega (arith, again_bytes before after back x, again_bytes before after back y, bytes_append (work_of before after back x) (work_of before after back y))
again_bytes before after back (looked k rest) = omega (arith, again_bytes before after back rest)
again_bytes before after back (unprinted x y) = omega (arith, again_bytes before after back x, again_bytes before after back y, bytes_append (work_of before after back x) (work_of before after back y))
again_bytes before after back (referred t j end inside) = omega (arith, again_bytes before after back inside, bytes_append (work_of before after back inside) (record { bytes = after t j end; looks = 17 * back t j end } ∷ []))
again_bytes before after back _ = refl

none_again : (t : Tree) → again no_distance t ≡ 0
none_again nothing = refl
none_again (piece t rest) = none_again rest
none_again (plain_piece t rest) = none_again rest
none_again (node x y) = omega (arith, none_again x, none_again y)
none_again (looked k rest) = none_again rest
none_again (unprinted x y) = omega (arith, none_again x, none_again y)
none_again (referred t j end inside) = omega (arith, none_again inside)
none_again _ = refl

-- if nothing is given back, the looks are those of the tree's costs
looks_alike : (before after : Distance) (t : Tree) → looks_of (work_of before after no_distance t) ≡ looks_of (costs_of true t)
looks_alike before after t = omega (arith, same_looks before after no_distance t, none_again t)

both_again : (n : ℕ) (t : Tree) → again (read_again n) t ≡ again led_back t + again (beyond n) t
both_again n nothing = refl
both_again n (piece t rest) = both_again n rest
both_again n (plain_piece t rest) = both_again n rest
both_again n (node x y) = omega (arith, both_again n x, both_again n y)
both_again n (looked k rest) = both_again n rest
both_again n (unprinted x y) = omega (arith, both_again n x, both_again n y)
both_again n (referred t j end inside) = omega (arith, both_again n inside)
both_again n _ = refl

only_back : (n t : ℕ) (j end : Place) → EndsBefore end j → beyond n t j end ≡ 0
only_back n t None end h = refl
only_back n t (Some j) (Some e) h = omega (arith, h)
only_back n t (Some j) None h = absurd h

-- if no target is read beyond its reference, reading goes back to the targets alone
pub only_led_back : (n : ℕ) (t : Tree) → OnlyBack t → again (beyond n) t ≡ 0
only_led_back n nothing h = refl
only_led_back n (piece t rest) h = only_led_back n rest h
only_led_back n (plain_piece t rest) h = only_led_back n rest h
only_led_back n (node x y) h = omega (arith, only_led_back n x h.0, only_led_back n y h.1)
only_led_back n (looked k rest) h = only_led_back n rest h
only_led_back n (unprinted x y) h = omega (arith, only_led_back n x h.0, only_led_back n y h.1)
only_led_back n (referred t j end inside) h = omega (arith, only_back n t j end h.0, only_led_back n inside h.1)
only_led_back n _ h = refl

-- a target whose bytes are spelled up to its reference's end at most is not read beyond it
pub spelled_target : (symbol : List ℕ) (folds : Bool) (kind : Kind) (value : Bool) (t e j depth m : ℕ) → depth ≤ max_depth → t ≤ length symbol → Spells symbol (rule true folds) depth m (items kind value) t e → e ≤ j →
    EndsBefore (read_at symbol folds true kind t depth m value).place (Some j)
spelled_target symbol folds kind value t e j depth m h b a l = subst (λ (x : Place). EndsBefore x (Some j)) (sym (spells_read symbol folds true kind value t e depth m h b a)) l

-- What is paid before the target and after it.

pub there_and_beyond : (n : ℕ) → Covers n (n + 1) led_back (beyond n) no_distance
there_and_beyond n = record { failed = λ t j. (omega arith, omega arith); read = λ t j e d h. (omega (arith, d, h), omega (arith, d, h)) }

pub all_before : (n : ℕ) → Covers n 0 (up_to_end n) no_distance no_distance
all_before n = record { failed = λ t j. (omega arith, omega arith); read = λ t j e d h. (omega (arith, d, h), omega (arith, d, h)) }

pub known_after : (n : ℕ) → Covers n 0 (read_again n) no_distance no_distance
known_after n = record { failed = λ t j. (omega arith, omega arith); read = λ t j e d h. (omega (arith, d, h), omega (arith, d, h)) }

-- The law.

whole : (R n i from : ℕ) (xs : List LookCost) (x : Place) → Goes R n i from 8 xs x → looks_of xs + 8 ≤ 17 * reach n i x + from + 17 * bytes_of xs
whole R n i from xs None h = let w : looks_of xs + (8 + R) ≤ 17 * (n + 1 - i) + from + R + 17 * bytes_of xs = IsWithinBudget-whole 17 (17 * (n + 1 - i) + from + R) (8 + R) xs h in omega (arith, w)
whole R n i from xs (Some j) h = let w : looks_of xs + (8 + R) ≤ 17 * (j - i) + from + R + 17 * bytes_of xs = IsWithinBudget-whole 17 (17 * (j - i) + from + R) (8 + R) xs h.2 in omega (arith, w)

-- the looks of a production, printed or not, at any place and depth
pub looks_again : (symbol : List ℕ) (folds printed : Bool) (kind : Kind) (i depth m : ℕ) (value : Bool) → i ≤ length symbol →
    looks_in (read_at symbol folds printed kind i depth m value) + 6
    ≤ 17 * (reach (length symbol) i (read_at symbol folds printed kind i depth m value).place + again (read_again (length symbol)) (read_at symbol folds printed kind i depth m value).tree)
looks_again symbol folds printed kind i depth m value l =
    let n : ℕ = length symbol in
    let o : Outcome = read_at symbol folds printed kind i depth m value in
    let w : looks_of (work_of led_back (beyond n) no_distance o.tree) + 8 ≤ 17 * reach n i o.place + start kind + 17 * bytes_of (work_of led_back (beyond n) no_distance o.tree) =
    whole (loan (n + 1) (max_depth - depth)) n i (start kind) (work_of led_back (beyond n) no_distance o.tree) o.place (read_goes led_back (beyond n) no_distance (n + 1) symbol folds printed kind i depth m value (there_and_beyond n) l) in
    omega (arith, w, small kind, looks_alike led_back (beyond n) o.tree, again_bytes led_back (beyond n) no_distance o.tree, both_again n o.tree)

-- if no target is read beyond its reference, from each reference back to its target
pub looks_led_back : (symbol : List ℕ) (folds printed : Bool) (kind : Kind) (i depth m : ℕ) (value : Bool) → i ≤ length symbol → OnlyBack (read_at symbol folds printed kind i depth m value).tree →
    looks_in (read_at symbol folds printed kind i depth m value) + 6
    ≤ 17 * (reach (length symbol) i (read_at symbol folds printed kind i depth m value).place + again led_back (read_at symbol folds printed kind i depth m value).tree)
looks_led_back symbol folds printed kind i depth m value l h =
    let n : ℕ = length symbol in
    let o : Outcome = read_at symbol folds printed kind i depth m value in
    let w : looks_in o + 6 ≤ 17 * (reach n i o.place + again (read_again n) o.tree) = looks_again symbol folds printed kind i depth m value l in
    omega (arith, w, both_again n o.tree, only_led_back n o.tree h)

-- with distances that are known before the targets are read
pub looks_up_to_end : (symbol : List ℕ) (folds printed : Bool) (kind : Kind) (i depth m : ℕ) (value : Bool) → i ≤ length symbol →
    looks_in (read_at symbol folds printed kind i depth m value) + 6
    ≤ 17 * (reach (length symbol) i (read_at symbol folds printed kind i depth m value).place + again (up_to_end (length symbol)) (read_at symbol folds printed kind i depth m value).tree)
looks_up_to_end symbol folds printed kind i depth m value l =
    let n : ℕ = length symbol in
    let o : Outcome = read_at symbol folds printed kind i depth m value in
    let w : looks_of (work_of (up_to_end n) no_distance no_distance o.tree) + 8 ≤ 17 * reach n i o.place + start kind + 17 * bytes_of (work_of (up_to_end n) no_distance no_distance o.tree) =
    whole (loan 0 (max_depth - depth)) n i (start kind) (work_of (up_to_end n) no_distance no_distance o.tree) o.place (read_goes (up_to_end n) no_distance no_distance 0 symbol folds printed kind i depth m value (all_before n) l) in
    omega (arith, w, small kind, looks_alike (up_to_end n) no_distance o.tree, again_bytes (up_to_end n) no_distance no_distance o.tree, none_again o.tree)

pub loans : (gap m : ℕ) → loan gap m ≡ 17 * gap * m
loans gap zero = omega arith
loans gap (suc m) = omega (arith, loans gap m)

forms_text : (plain out : Bool) (t : Text) (xs : List Event) → allowed_in (text_if (plain && out) t xs) ≡ allowed_in xs
forms_text true true t xs = refl
forms_text true false t xs = refl
forms_text false out t xs = refl

both_allow : (xs ys us vs : List Event) → allowed_in xs ≡ allowed_in us → allowed_in ys ≡ allowed_in vs → allowed_in (xs ++ ys) ≡ allowed_in (us ++ vs)
both_allow xs ys us vs e f = omega (arith, e, f, allowed_append xs ys, allowed_append us vs)

forms_alike : (plain : Bool) (t : Tree) → allowed_in (events plain false t) ≡ allowed_in (events true false t)
forms_alike plain (piece t rest) = forms_alike plain rest
forms_alike plain (plain_piece t rest) = forms_text plain false t (events plain false rest) ∙ forms_alike plain rest
forms_alike plain (node x y) = both_allow (events plain false x) (events plain false y) (events true false x) (events true false y) (forms_alike plain x) (forms_alike plain y)
forms_alike plain (looked k rest) = omega (arith, forms_alike plain rest)
forms_alike plain (unprinted x y) = both_allow (events plain false x) (events plain false y) (events true false x) (events true false y) (forms_alike plain x) (forms_alike plain y)
forms_alike plain (referred t j end inside) = forms_alike plain inside
forms_alike plain _ = refl

-- the looks that a tree allows, in either form, printed or not
pub allowed_work : (before after : Distance) (plain out : Bool) (t : Tree) → allowed_in (events plain out t) ≡ looks_of (work_of before after no_distance t)
allowed_work before after plain out t = allowed_looks plain out t ∙ (either_form plain t ∙ sym (looks_alike before after t))
  where
    either_form : (plain : Bool) (t : Tree) → looks_of (costs_of plain t) ≡ looks_of (costs_of true t)
    either_form plain t = sym (allowed_looks plain false t) ∙ (forms_alike plain t ∙ allowed_looks true false t)

reach_most : (R n i from to : ℕ) (xs : List LookCost) (x : Place) → i ≤ n → Goes R n i from to xs x → reach n i x ≤ n + 1 - i
reach_most R n i from to xs None l h = omega arith
reach_most R n i from to xs (Some j) l h = omega (arith, h.0, h.1)

-- the looks of printing a symbol's first path
pub path_looks : (symbol : List ℕ) (form : Form) (plain : Bool) →
    allowed_in (events plain true (read_at symbol form.fold_arguments true a_path 0 0 0 true).tree) + 6 ≤ 17 * (length symbol + 1 + path_again symbol form)
unfolding path_again
path_looks symbol form plain =
    let n : ℕ = length symbol in
    let o : Outcome = read_at symbol form.fold_arguments true a_path 0 0 0 true in
    let g : Within led_back (beyond n) no_distance (loan (n + 1) (max_depth - 0)) n 0 0 8 o = read_goes led_back (beyond n) no_distance (n + 1) symbol form.fold_arguments true a_path 0 0 0 true (there_and_beyond n) (omega arith) in
    let w : looks_in o + 6 ≤ 17 * (reach n 0 o.place + again (read_again n) o.tree) = looks_again symbol form.fold_arguments true a_path 0 0 0 true (omega arith) in
    omega (arith, w, reach_most (loan (n + 1) (max_depth - 0)) n 0 0 8 (work_of led_back (beyond n) no_distance o.tree) o.place (omega arith) g, allowed_work led_back (beyond n) plain true o.tree, looks_alike led_back (beyond n) o.tree)

-- The number of references that are followed.

abbrev pub one_each : Distance
one_each t j end = 1

pub up_to_end_most : (n : ℕ) (t : Tree) → again (up_to_end n) t ≤ (n + 1) * again one_each t
up_to_end_most n nothing = omega arith
up_to_end_most n (piece t rest) = up_to_end_most n rest
up_to_end_most n (plain_piece t rest) = up_to_end_most n rest
up_to_end_most n (node x y) = omega (arith, up_to_end_most n x, up_to_end_most n y)
up_to_end_most n (looked k rest) = up_to_end_most n rest
up_to_end_most n (unprinted x y) = omega (arith, up_to_end_most n x, up_to_end_most n y)
up_to_end_most n (referred t j end inside) = omega (arith, up_to_end_most n inside)
up_to_end_most n _ = omega arith

-- the looks of a production by the number of references that it follows
pub looks_by_references : (symbol : List ℕ) (folds printed : Bool) (kind : Kind) (i depth m : ℕ) (value : Bool) → i ≤ length symbol →
    looks_in (read_at symbol folds printed kind i depth m value) ≤ 17 * (length symbol + 1) * (again one_each (read_at symbol folds printed kind i depth m value).tree + 1)
looks_by_references symbol folds printed kind i depth m value l =
    let n : ℕ = length symbol in
    let o : Outcome = read_at symbol folds printed kind i depth m value in
    let g : Within led_back (beyond n) no_distance (loan (n + 1) (max_depth - depth)) n i (start kind) 8 o = read_goes led_back (beyond n) no_distance (n + 1) symbol folds printed kind i depth m value (there_and_beyond n) l in
    let w : looks_in o + 6 ≤ 17 * (reach n i o.place + again (up_to_end n) o.tree) = looks_up_to_end symbol folds printed kind i depth m value l in
    omega (arith, w, reach_most (loan (n + 1) (max_depth - depth)) n i (start kind) 8 (work_of led_back (beyond n) no_distance o.tree) o.place l g, up_to_end_most n o.tree)
