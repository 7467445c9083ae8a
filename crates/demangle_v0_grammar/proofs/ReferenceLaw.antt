-- The texts and the looks of a path, up to a limit of the bytes that are read again.
use Rattle.std.specs.Prelude.{ℕ, ◌≤◌, ◌*◌, ◌&&◌, if◌then◌else◌, nat_le, map}
use Rattle.std.proofs.Common.{◌≡◌, Bool, true, false, List, [], ◌∷◌, ◌++◌, length, Option, Some, None, refl, ap, ◌∙◌, ◌+◌, ◌-◌, subst, sym, append_assoc, arith}
use Rattle.std.proofs.lemmas.List.{map-append, append-nil}
use Rattle.demangle_v0_grammar.specs.Items.{Text, a_path}
use Rattle.demangle_v0_grammar.specs.LookBudget.{LookCost, IsWithinBudget}
use Rattle.demangle_v0_grammar.specs.Reading.{Tree, nothing, piece, plain_piece, node, looked, unprinted, referred, looks, pieces, Place, Outcome, Form, max_depth, path_texts, read_at}
use Rattle.demangle_v0_grammar.specs.Traces.{Event, prints_text, allows, refers, returns, text_if, events, moves_in}
use Rattle.demangle_v0_grammar.specs.References.{Move, says, follows, ends, moves, bytes_after, texts_before, is_whole, path_moves, path_texts_before, is_path_whole}
use Rattle.demangle_v0_grammar.specs.Again.{Distance, no_distance}
use Rattle.demangle_v0_grammar.proofs.BudgetRules.{IsWithinBudget-more, IsWithinBudget-parts, IsWithinBudget-mapped}
use Rattle.demangle_v0_grammar.proofs.AgainItems.{work_of, Goes, Covers, loan, read_goes}
use Rattle.demangle_v0_grammar.proofs.AgainLaw.{loans}
use Rattle.demangle_v0_grammar.proofs.PrintingSteps.{quiet_moves}
use Rattle.demangle_v0_grammar.proofs.Calm.{Calm, read_calm}

-- The moves.

moves_append : (xs ys : List Event) → moves_in (xs ++ ys) ≡ moves_in xs ++ moves_in ys
moves_append [] ys = refl
moves_append (prints_text t ∷ xs) ys = ap (λ (zs : List Move). says t ∷ zs) (moves_append xs ys)
moves_append (allows k ∷ xs) ys = moves_append xs ys
moves_append (refers t ∷ xs) ys = ap (λ (zs : List Move). follows t ∷ zs) (moves_append xs ys)
moves_append (returns e ∷ xs) ys = ap (λ (zs : List Move). ends e ∷ zs) (moves_append xs ys)

moves_plain : (plain : Bool) (t : Text) (rest : Tree) (xs : List Event) → moves_in xs ≡ moves plain rest → moves_in (text_if (plain && true) t xs) ≡ moves plain (plain_piece t rest)
moves_plain true t rest xs e = ap (λ (zs : List Move). says t ∷ zs) e
moves_plain false t rest xs e = e

-- a parse that prints makes the moves of the tree
pub shown_moves : (plain : Bool) (t : Tree) → moves_in (events plain true t) ≡ moves plain t
shown_moves plain (piece x rest) = ap (λ (zs : List Move). says x ∷ zs) (shown_moves plain rest)
shown_moves plain (plain_piece x rest) = moves_plain plain x rest (events plain true rest) (shown_moves plain rest)
shown_moves plain (node inside rest) = moves_append (events plain true inside) (events plain true rest) ∙ (ap (λ xs. xs ++ moves_in (events plain true rest)) (shown_moves plain inside) ∙ ap (λ ys. moves plain inside ++ ys) (shown_moves plain rest))
shown_moves plain (looked k rest) = shown_moves plain rest
shown_moves plain (unprinted inside rest) = moves_append (events plain false inside) (events plain true rest) ∙ (ap (λ xs. xs ++ moves_in (events plain true rest)) (quiet_moves plain inside) ∙ shown_moves plain rest)
shown_moves plain (referred t j end inside) = ap (λ (zs : List Move). follows t ∷ zs) (moves_append (events plain true inside) (returns end ∷ []) ∙ ap (λ (zs : List Move). zs ++ ends end ∷ []) (shown_moves plain inside))
shown_moves plain _ = refl

-- Without a limit.

-- all texts of the moves
abbrev said : List Move → List Text
said [] = []
said (says t ∷ ms) = t ∷ said ms
said (follows t ∷ ms) = said ms
said (ends e ∷ ms) = said ms

all_said : (n used : ℕ) (ms : List Move) → texts_before None n used ms ≡ said ms
all_said n used [] = refl
all_said n used (says t ∷ ms) = ap (λ (zs : List Text). t ∷ zs) (all_said n used ms)
all_said n used (follows t ∷ ms) = all_said n used ms
all_said n used (ends e ∷ ms) = all_said n (used - bytes_after n e) ms

said_append : (xs ys : List Move) → said (xs ++ ys) ≡ said xs ++ said ys
said_append [] ys = refl
said_append (says t ∷ xs) ys = ap (λ (zs : List Text). t ∷ zs) (said_append xs ys)
said_append (follows t ∷ xs) ys = said_append xs ys
said_append (ends e ∷ xs) ys = said_append xs ys

said_plain : (plain : Bool) (t : Text) (rest : Tree) → said (moves plain rest) ≡ pieces plain rest → said (moves plain (plain_piece t rest)) ≡ pieces plain (plain_piece t rest)
said_plain true t rest e = ap (λ (zs : List Text). t ∷ zs) e
said_plain false t rest e = e

said_pieces : (plain : Bool) (t : Tree) → said (moves plain t) ≡ pieces plain t
said_pieces plain (piece x rest) = ap (λ (zs : List Text). x ∷ zs) (said_pieces plain rest)
said_pieces plain (plain_piece x rest) = said_plain plain x rest (said_pieces plain rest)
said_pieces plain (node inside rest) = said_append (moves plain inside) (moves plain rest) ∙ (ap (λ xs. xs ++ said (moves plain rest)) (said_pieces plain inside) ∙ ap (λ ys. pieces plain inside ++ ys) (said_pieces plain rest))
said_pieces plain (looked k rest) = said_pieces plain rest
said_pieces plain (unprinted inside rest) = said_pieces plain rest
said_pieces plain (referred t j end inside) = said_append (moves plain inside) (ends end ∷ []) ∙ (append-nil (said (moves plain inside)) ∙ said_pieces plain inside)
said_pieces plain _ = refl

pub unlimited_texts : (symbol : List ℕ) (form : Form) → path_texts_before None symbol form ≡ path_texts symbol form
unfolding path_moves path_texts
unlimited_texts symbol form = all_said (length symbol) 0 (path_moves symbol form) ∙ said_pieces form.include_hash (read_at symbol form.fold_arguments true a_path 0 0 0 true).tree

unlimited : (n used : ℕ) (ms : List Move) → is_whole None n used ms ≡ true
unlimited n used [] = refl
unlimited n used (says t ∷ ms) = unlimited n used ms
unlimited n used (follows t ∷ ms) = unlimited n used ms
unlimited n used (ends e ∷ ms) = unlimited n (used - bytes_after n e) ms

pub unlimited_whole : (symbol : List ℕ) (form : Form) → is_path_whole None symbol form ≡ true
unlimited_whole symbol form = unlimited (length symbol) 0 (path_moves symbol form)

-- a limit that is not reached leaves out nothing
whole_said : (most : Option ℕ) (n used : ℕ) (ms : List Move) → is_whole most n used ms ≡ true → texts_before most n used ms ≡ said ms
whole_said most n used [] e = refl
whole_said most n used (says t ∷ ms) e = ap (λ (zs : List Text). t ∷ zs) (whole_said most n used ms e)
whole_said None n used (follows t ∷ ms) e = whole_said None n used ms e
whole_said (Some k) n used (follows t ∷ ms) e = followed (nat_le (used + (n - t + 1)) k) (λ h. whole_said (Some k) n (used + (n - t + 1)) ms h) e
  where
    followed : (c : Bool) → (is_whole (Some k) n (used + (n - t + 1)) ms ≡ true → texts_before (Some k) n (used + (n - t + 1)) ms ≡ said ms) →
        (if c then is_whole (Some k) n (used + (n - t + 1)) ms else false) ≡ true → (if c then texts_before (Some k) n (used + (n - t + 1)) ms else []) ≡ said ms
    followed true g h = g h
    followed false g h = cc h
whole_said most n used (ends x ∷ ms) e = whole_said most n (used - bytes_after n x) ms e

pub whole_texts : (most : Option ℕ) (n used : ℕ) (ms : List Move) → is_whole most n used ms ≡ true → texts_before most n used ms ≡ texts_before None n used ms
whole_texts most n used ms e = whole_said most n used ms e ∙ sym (all_said n used ms)

-- The looks. Each reference pays for those of the bytes after its target. What its target leaves is given back.

abbrev pub due : ℕ → Event → LookCost
due n (prints_text t) = looks 0
due n (allows k) = looks k
due n (refers t) = record { bytes = n - t + 1; looks = 0 }
due n (returns e) = looks (17 * bytes_after n e)

abbrev pub dues : ℕ → List Event → List LookCost
dues n xs = map (due n) xs

-- from the end of the symbol back to the target, and one more
abbrev from_target : ℕ → Distance
from_target n t j end = n - t + 1

-- the same to the end of the target
abbrev after_end : ℕ → Distance
after_end n t j end = bytes_after n end

covers_target : (n : ℕ) → Covers n 0 (from_target n) no_distance (after_end n)
covers_target n = record { failed = λ t j. (omega arith, omega arith); read = λ t j e d h. (omega (arith, d, h), omega (arith, d, h)) }

-- an entry without looks
free : (r a c : ℕ) (xs : List LookCost) → IsWithinBudget r a xs c → IsWithinBudget r a (looks 0 ∷ xs) c
free r a c xs h = (omega arith, IsWithinBudget-more r a (a - 0 + r * 0) c c 0 xs (omega arith) (omega arith) h)

due_text : (r a c n : ℕ) (out : Bool) (t : Text) (xs : List Event) (zs : List LookCost) → IsWithinBudget r a (dues n xs ++ zs) c → IsWithinBudget r a (dues n (text_if out t xs) ++ zs) c
due_text r a c n true t xs zs h = free r a c (dues n xs ++ zs) h
due_text r a c n false t xs zs h = h

pays : (c n : ℕ) (plain out : Bool) (t : Tree) (ys zs : List LookCost) → Calm out t → ((a : ℕ) → IsWithinBudget 17 a ys c → IsWithinBudget 17 a zs c) → (a : ℕ)
    → IsWithinBudget 17 a (work_of (from_target n) no_distance (after_end n) t ++ ys) c → IsWithinBudget 17 a (dues n (events plain out t) ++ zs) c
pays c n plain out nothing ys zs q f a h = f a h
pays c n plain out (piece x rest) ys zs q f a h = due_text 17 a c n out x (events plain out rest) zs (pays c n plain out rest ys zs q f a h)
pays c n plain out (plain_piece x rest) ys zs q f a h = due_text 17 a c n (plain && out) x (events plain out rest) zs (pays c n plain out rest ys zs q f a h)
pays c n plain out (node inside rest) ys zs q f a h =
    let w = work_of (from_target n) no_distance (after_end n) in
    IsWithinBudget-mapped (due n) 17 a c (events plain out inside) (events plain out rest) zs
    (pays c n plain out inside (w rest ++ ys) (dues n (events plain out rest) ++ zs) q.0 (λ a'. pays c n plain out rest ys zs q.1 f a') a (IsWithinBudget-parts 17 a c (w inside) (w rest) ys _ refl h))
pays c n plain out (looked k rest) ys zs q f a h = (h.0, pays c n plain out rest ys zs q f (a - k + 17 * 0) h.1)
pays c n plain out (unprinted inside rest) ys zs q f a h =
    let w = work_of (from_target n) no_distance (after_end n) in
    IsWithinBudget-mapped (due n) 17 a c (events plain false inside) (events plain out rest) zs
    (pays c n plain false inside (w rest ++ ys) (dues n (events plain out rest) ++ zs) q.0 (λ a'. pays c n plain out rest ys zs q.1 f a') a (IsWithinBudget-parts 17 a c (w inside) (w rest) ys _ refl h))
pays c n plain true (referred t j end inside) ys zs q f a h =
    let w = work_of (from_target n) no_distance (after_end n) in
    let b : ℕ = a - 0 + 17 * (n - t + 1) in (
      h.0,
      IsWithinBudget-mapped (due n) 17 b c (events plain true inside) (returns end ∷ []) zs
          (pays c n plain true inside (looks (17 * bytes_after n end) ∷ ys) (looks (17 * bytes_after n end) ∷ zs) q (λ a' p. (p.0, f (a' - 17 * bytes_after n end + 17 * 0) p.1)) b (IsWithinBudget-parts 17 b c (w inside) (looks (17 * bytes_after n end) ∷ []) ys _ refl h.1)),
    )
pays c n plain false (referred t j end inside) ys zs q f a h = absurd q
pays c n plain true _ ys zs q f a h = free 17 a c zs (f a h)
pays c n plain false _ ys zs q f a h = f a h

goes_most : (n a b to : ℕ) (xs : List LookCost) (x : Place) → b ≡ 0 → Goes b n 0 0 to xs x → 17 * (n + 1) ≤ a → IsWithinBudget 17 a xs 0
goes_most n a b to xs None e h l = IsWithinBudget-more 17 (17 * (n + 1 - 0) + 0 + b) a (8 + b) 0 0 xs (omega (arith, l, e)) (omega arith) h
goes_most n a b to xs (Some j) e h l = IsWithinBudget-more 17 (17 * (j - 0) + 0 + b) a (to + b) 0 0 xs (omega (arith, l, e, h.1)) (omega arith) h.2

-- the looks of a path, if each reference pays for those of the bytes after its target
pub path_dues : (symbol : List ℕ) (form : Form) →
    IsWithinBudget 17 (17 * (length symbol + 1)) (dues (length symbol) (events form.include_hash true (read_at symbol form.fold_arguments true a_path 0 0 0 true).tree)) 0
path_dues symbol form =
    let n : ℕ = length symbol in
    let o : Outcome = read_at symbol form.fold_arguments true a_path 0 0 0 true in
    let w : List LookCost = work_of (from_target n) no_distance (after_end n) o.tree in
    let g : IsWithinBudget 17 (17 * (n + 1)) w 0 = goes_most n (17 * (n + 1)) (loan 0 (max_depth - 0)) 8 w o.place (omega (arith, loans 0 (max_depth - 0)))
    (read_goes (from_target n) no_distance (after_end n) 0 symbol form.fold_arguments true a_path 0 0 0 true (covers_target n) (omega arith)) (omega arith) in
    subst (λ ws. IsWithinBudget 17 (17 * (n + 1)) ws 0) (append-nil (dues n (events form.include_hash true o.tree)))
    (pays 0 n form.include_hash true o.tree [] [] (read_calm symbol form.fold_arguments true a_path 0 0 0 true) (λ a p. p) (17 * (n + 1)) (subst (λ ws. IsWithinBudget 17 (17 * (n + 1)) ws 0) (sym (append-nil w)) g))
