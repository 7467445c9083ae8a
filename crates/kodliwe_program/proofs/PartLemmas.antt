-- The parts of an output, written in sequence.
use Rattle.std.proofs.Common.{◌≡◌, ℕ, List, [], ◌∷◌, ◌++◌, None, Some, IfSome, option_map, OnOk, Ok, Err, refl, sym, ap, subst, ◌∙◌, append_assoc, append-nil, length, arith}
use Rattle.std.specs.List.{concat}
use Rattle.std.specs.Option.{option_map_or}
use Rattle.std.specs.declared.option.Option.{Option}
use Rattle.std.specs.declared.result.Result.{Result}
use Rattle.std.specs.Bool.{⊤}
use Rattle.std.specs.Io.KnownBytes.{Appends, Keeps}
use Rattle.std.proofs.KnownBytes.{Appends-trans, Appends-nil, Appends-kept}
use Rattle.std.proofs.lemmas.Option.{MatchOption-at_some}
use Rattle.rustc_demangle.specs.Rewritten.{rewritten_after, rewritten_in}
use Rattle.rustc_demangle.specs.ByteStream.{Unwritten, from_start, FilteredPrefix, IsWriting, BytesStopped}
use Rattle.demangle_value.specs.Stripped.{stripped}
use Rattle.demangle_value.specs.Symbols.{IsSymbol, form_in, pieces_in, handed_in}
use Rattle.demangle_value.specs.declared.format.Format.{Format}
use Rattle.rustc_demangle.specs.declared.stream.fault.StreamFault.{StreamFault}
use Rattle.rustc_demangle.specs.declared.stream.fault.StreamFault.TheVariants.{Read, NotUtf8, Write, Memory}
use Rattle.demangle_value.proofs.SymbolLemmas.{pieces-symbol, symbol-pieces}
use Rattle.kodliwe_program.specs.Parts.{PartText, text, argument, argument_in, part_in, part_bytes, all_printed, Remain, WroteAll, StoppedIn, WrotePrefix, RunStopped}

-- the parts that were written so far, and the ones that are left
pub record Printing {X : Type 0} (f : X → List ℕ) (all held : List (Option X)) (old new : Option (List ℕ)) : Type 0 where
  pub parts : (xs : List X) → Remain all xs
      → (done : List X) × (rest : List X) × (xs ≡ done ++ rest) × Remain held rest × Appends old new (all_printed f done)

pub printing_init : {X : Type 0} (f : X → List ℕ) (all held : List (Option X)) (old : Option (List ℕ)) → all ≡ held → Printing f all held old old
printing_init f all held old e = subst (λ l. Printing f all l old old) e (record { parts = λ xs is. ([], xs, refl, is, Appends-nil old) })

printed_push : {X : Type 0} (f : X → List ℕ) (done : List X) (x : X) → all_printed f (done ++ x ∷ []) ≡ all_printed f done ++ f x
printed_push f [] x = append-nil (f x)
printed_push f (t ∷ done) x = ap (λ l. f t ++ l) (printed_push f done x) ∙ sym (append_assoc (f t) (all_printed f done) (f x))

-- a part was written
pub printing_step : {X : Type 0} (f : X → List ℕ) (all now : List (Option X)) (first : Option X) (held : List (Option X)) (old mid new : Option (List ℕ))
    → Printing f all now old mid → now ≡ first ∷ held → IfSome first (λ x. Appends mid new (f x)) → Printing f all held old new
printing_step f all now first held old mid new inv e wrote = record {
  parts = λ xs is.
      let p = inv.parts xs is in at xs p.0 p.1 p.2 (subst (λ l. Remain l p.1) e p.3) p.4;
}
  where
    at : (xs done rest : List _) → xs ≡ done ++ rest → Remain (first ∷ held) rest → Appends old mid (all_printed f done)
        → (done : List _) × (rest : List _) × (xs ≡ done ++ rest) × Remain held rest × Appends old new (all_printed f done)
    at xs done [] e are grew = absurd are
    at xs done (x ∷ rest) e are grew =
        let more : Appends mid new (f x) = MatchOption-at_some ⊤ (λ x. Appends mid new (f x)) x are.0 wrote in
        (done ++ x ∷ [], rest, e ∙ sym (append_assoc done (x ∷ []) rest), are.1, subst (Appends old new) (sym (printed_push f done x)) (Appends-trans old mid new _ _ grew more))

-- all parts were written
pub printing_end : {X : Type 0} (f : X → List ℕ) (all now : List (Option X)) (old mid new : Option (List ℕ)) → Printing f all now old mid → now ≡ [] → Keeps mid new → WroteAll f all old new
printing_end f all now old mid new inv none keeps = λ xs is. let p = inv.parts xs is in at xs p.0 p.1 p.2 (subst (λ l. Remain l p.1) none p.3) p.4
  where
    at : (xs done rest : List _) → xs ≡ done ++ rest → Remain [] rest → Appends old mid (all_printed f done) → Appends old new (all_printed f xs)
    at xs done [] e are grew = subst (λ l. Appends old new (all_printed f l)) (sym (e ∙ append-nil done)) (Appends-kept old mid new _ grew keeps)
    at xs done (x ∷ rest) e are grew = absurd are

-- writing stopped in a part
stopped_in : (format : Format) (all now : List (Option PartText)) (first : Option PartText) (held : List (Option PartText)) (old mid new : Option (List ℕ))
    → Printing (part_in format) all now old mid → now ≡ first ∷ held → IfSome first (λ x. (left : Unwritten) × FilteredPrefix (rewritten_after format) (from_start (part_bytes x)) left mid new) → WrotePrefix format all old new
stopped_in format all now first held old mid new inv e stopped = λ xs is. let p = inv.parts xs is in at xs p.0 p.1 p.2 (subst (λ l. Remain l p.1) e p.3) p.4
  where
    at : (xs done rest : List PartText) → xs ≡ done ++ rest → Remain (first ∷ held) rest → Appends old mid (all_printed (part_in format) done) → StoppedIn format xs old new
    at xs done [] e are grew = absurd are
    at xs done (x ∷ rest) e are grew =
        let q = MatchOption-at_some ⊤ (λ x. (left : Unwritten) × FilteredPrefix (rewritten_after format) (from_start (part_bytes x)) left mid new) x are.0 stopped in
        let r = q.1 in
        record { before = done; part = x; following = rest; prefix = r.prefix; left = q.0.bytes; whole = e; within = r.whole; uncut = r.uncut; wrote = Appends-trans old mid new _ _ grew r.wrote }

pub printing_err : (fault : StreamFault) (format : Format) (all now : List (Option PartText)) (first : Option PartText) (held : List (Option PartText)) (old mid new : Option (List ℕ))
    → Printing (part_in format) all now old mid → now ≡ first ∷ held → IfSome first (λ x. BytesStopped (rewritten_after format) fault (from_start (part_bytes x)) mid new) → RunStopped fault format all old new
printing_err (Read e) format all now first held old mid new inv e' stopped = stopped_in format all now first held old mid new inv e' (at first stopped)
  where
    at : (o : Option PartText) → IfSome o (λ x. BytesStopped (rewritten_after format) (Read e) (from_start (part_bytes x)) mid new) → IfSome o (λ x. (left : Unwritten) × FilteredPrefix (rewritten_after format) (from_start (part_bytes x)) left mid new)
    at None s = tt
    at (Some x) s = (s.1, s.2)
printing_err NotUtf8 format all now first held old mid new inv e' stopped = stopped_in format all now first held old mid new inv e' (at first stopped)
  where
    at : (o : Option PartText) → IfSome o (λ x. BytesStopped (rewritten_after format) NotUtf8 (from_start (part_bytes x)) mid new) → IfSome o (λ x. (left : Unwritten) × FilteredPrefix (rewritten_after format) (from_start (part_bytes x)) left mid new)
    at None s = tt
    at (Some x) s = absurd s
printing_err (Write e) format all now first held old mid new inv e' stopped = tt
printing_err Memory format all now first held old mid new inv e' stopped = stopped_in format all now first held old mid new inv e' stopped

-- an error that is not the writer's
pub not_writing : (fault : StreamFault) (format : Format) (all : List (Option PartText)) (old new : Option (List ℕ)) → (IsWriting fault → ⊥) → RunStopped fault format all old new
    → WrotePrefix format all old new
not_writing (Read e) format all old new n stopped = stopped
not_writing NotUtf8 format all old new n stopped = stopped
not_writing (Write e) format all old new n stopped = absurd (n tt)
not_writing Memory format all old new n stopped = stopped

-- for the writer after the branches join
pub prefix_joined : {W : Type 0} (contents : W → Option (List ℕ)) (format : Format) (all : List (Option PartText)) (old : Option (List ℕ)) (new next : W) → next ≡ new
    → WrotePrefix format all old (contents new) → WrotePrefix format all old (contents next)
prefix_joined contents format all old new next e wrote = subst (λ w. WrotePrefix format all old (contents w)) (sym e) wrote

-- a flush does not change what was written
pub prefix_kept : (format : Format) (all : List (Option PartText)) (old mid new : Option (List ℕ)) → WrotePrefix format all old mid → Keeps mid new → WrotePrefix format all old new
prefix_kept format all old mid new wrote keeps = λ xs is.
    let s = wrote xs is in
    record {
      before = s.before;
      part = s.part;
      following = s.following;
      prefix = s.prefix;
      left = s.left;
      whole = s.whole;
      within = s.within;
      uncut = s.uncut;
      wrote = Appends-kept old mid new _ s.wrote keeps;
    }

-- an argument that is a symbol prints it
pub argument_in-symbol : (format : Format) (given symbol : List ℕ) → symbol ≡ stripped given → IsSymbol (stripped given) → concat (handed_in symbol format) ≡ argument_in format given
argument_in-symbol format given symbol same is =
    ap (λ s. concat (handed_in s format)) same
    ∙ sym (ap (λ read. option_map_or (λ (_ : List (List ℕ) × List ℕ). concat (handed_in (stripped given) format)) read (rewritten_in format given)) (pieces-symbol (form_in format (stripped given)) (stripped given) is).1)

-- any other argument is filtered
pub argument_in-no_symbol : (format : Format) (given bytes : List ℕ) → bytes ≡ given → (IsSymbol (stripped given) → ⊥) → rewritten_in format bytes ≡ argument_in format given
argument_in-no_symbol format given bytes same none = ap (rewritten_in format) same ∙ sym (at (pieces_in (form_in format (stripped given)) (stripped given)) refl)
  where
    at : (read : Option (List (List ℕ) × List ℕ)) → pieces_in (form_in format (stripped given)) (stripped given) ≡ read
        → option_map_or (λ _. concat (handed_in (stripped given) format)) read (rewritten_in format given) ≡ rewritten_in format given
    at None e = refl
    at (Some read) e = absurd (none (symbol-pieces (form_in format (stripped given)) (stripped given) read e))

-- what a reader that is wrapped by another one still had was written, with a memo of the same value
pub text_written : (format memo : Format) (part : Option PartText) (held kept old new : Option (List ℕ)) → memo ≡ format → part ≡ option_map text held → kept ≡ held
    → IfSome kept (λ t. Appends old new (rewritten_in memo t)) → IfSome part (λ p. Appends old new (part_in format p))
text_written format memo part held kept old new same is wraps wrote =
    subst (λ o. IfSome o (λ p. Appends old new (part_in format p))) (sym is) (at held (subst (λ o. IfSome o (λ t. Appends old new (rewritten_in memo t))) wraps wrote))
  where
    at : (o : Option (List ℕ)) → IfSome o (λ t. Appends old new (rewritten_in memo t)) → IfSome (option_map text o) (λ p. Appends old new (part_in format p))
    at None w = tt
    at (Some t) w = subst (λ (v : Format). Appends old new (rewritten_in v t)) same w

-- the same after an error
pub text_stopped : (format memo : Format) (fault : StreamFault) (part : Option PartText) (held kept old new : Option (List ℕ)) → memo ≡ format → part ≡ option_map text held → kept ≡ held
    → IfSome kept (λ t. BytesStopped (rewritten_after memo) fault (from_start t) old new) → IfSome part (λ p. BytesStopped (rewritten_after format) fault (from_start (part_bytes p)) old new)
text_stopped format memo fault part held kept old new same is wraps stopped =
    subst (λ o. IfSome o (λ p. BytesStopped (rewritten_after format) fault (from_start (part_bytes p)) old new)) (sym is) (at held (subst (λ o. IfSome o (λ t. BytesStopped (rewritten_after memo) fault (from_start t) old new)) wraps stopped))
  where
    at : (o : Option (List ℕ)) → IfSome o (λ t. BytesStopped (rewritten_after memo) fault (from_start t) old new) → IfSome (option_map text o) (λ p. BytesStopped (rewritten_after format) fault (from_start (part_bytes p)) old new)
    at None s = tt
    at (Some t) s = subst (λ (v : Format). BytesStopped (rewritten_after v) fault (from_start t) old new) same s

-- an argument was written as a line, with a memo of the same value
pub line_written : (format memo : Format) (part : Option PartText) (given : List ℕ) (old new : Option (List ℕ)) → memo ≡ format → part ≡ Some (argument given)
    → Appends old new (argument_in memo given ++ 10 ∷ []) → IfSome part (λ p. Appends old new (part_in format p))
line_written format memo part given old new same is wrote =
    subst (λ o. IfSome o (λ p. Appends old new (part_in format p))) (sym is) (subst (λ (v : Format). Appends old new (part_in v (argument given))) same wrote)

-- the same after an error
pub line_stopped : (format memo : Format) (fault : StreamFault) (part : Option PartText) (given : List ℕ) (old new : Option (List ℕ)) → memo ≡ format → part ≡ Some (argument given)
    → BytesStopped (rewritten_after memo) fault (from_start given) old new → IfSome part (λ p. BytesStopped (rewritten_after format) fault (from_start (part_bytes p)) old new)
line_stopped format memo fault part given old new same is stopped =
    subst (λ o. IfSome o (λ p. BytesStopped (rewritten_after format) fault (from_start (part_bytes p)) old new)) (sym is) (subst (λ (v : Format). BytesStopped (rewritten_after v) fault (from_start given) old new) same stopped)

-- the result of a write of another text, which is the same
pub wrote_same : {E : Type 0} (r : Result (Unit {0}) E) (old new : Option (List ℕ)) (a b : List ℕ) → a ≡ b → OnOk r (Appends old new a) → OnOk r (Appends old new b)
wrote_same r old new a b e = subst (λ t. OnOk r (Appends old new t)) e

-- one of two facts about a success
pub second : {E : Type 0} (A B : Type 0) (r : Result (Unit {0}) E) → OnOk r (A × B) → OnOk r B
second A B (Ok x) both = both.1
second A B (Err e) both = tt

pub nothing_left : {X : Type 0} (l : List X) → length l ≡ 0 → l ≡ []
nothing_left [] f = refl
nothing_left (x ∷ xs) f = absurd (omega (arith, f))
