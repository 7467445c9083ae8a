-- The printing of pieces in sequence: the printed ones, and the rest.
use Rattle.std.proofs.Common.{◌≡◌, ℕ, List, [], ◌++◌, Result, Ok, Err, IsErr, refl, sym, ap, ◌∙◌, subst, append_assoc}
use Rattle.std.proofs.lemmas.List.{append-nil}
use Rattle.demangle_sink.specs.declared.TextSink.{Ghosts}
use Rattle.demangle_sink.specs.declared.SinkRefused.{SinkRefused}
use Rattle.demangle_sink.specs.declared.limit.SizeLimitedFmtAdapter.{SizeLimitedFmtAdapter}
use Rattle.demangle_sink.specs.Limit.{Ready, Prints}
use Rattle.demangle_sink.specs.Limit.{PrintedPrefix}
use Rattle.demangle_sink.proofs.PrintsLemmas.{prints_ready, prints_nothing, prints_then, prints_stop}

module _ {S : Type 0} (sink : Ghosts S) where
  pub printed_start : (out : SizeLimitedFmtAdapter S) (whole rest : List (List ℕ)) → Ready sink out → rest ≡ whole → PrintedPrefix sink out whole rest out
  printed_start out whole rest ready e = record { prefix = []; done = prints_nothing sink out ready; is = e }

  pub printed_ready : (old new : SizeLimitedFmtAdapter S) (whole rest : List (List ℕ)) → PrintedPrefix sink old whole rest new → Ready sink new
  printed_ready old new whole rest p = prints_ready sink old p.prefix (Ok tt) new p.done refl

  -- the rest in another form
  pub printed_left : (old new : SizeLimitedFmtAdapter S) (whole left rest : List (List ℕ)) → PrintedPrefix sink old whole left new → left ≡ rest → PrintedPrefix sink old whole rest new
  printed_left old new whole left rest p e = record { prefix = p.prefix; done = p.done; is = ap (λ t. p.prefix ++ t) (sym e) ∙ p.is }

  -- the next pieces were printed too
  pub printed_then : (old mid new : SizeLimitedFmtAdapter S) (whole left xs rest : List (List ℕ)) → PrintedPrefix sink old whole left mid → left ≡ xs ++ rest → Prints sink mid xs (Ok tt) new → PrintedPrefix sink old whole rest new
  printed_then old mid new whole left xs rest p e more = record {
    prefix = p.prefix ++ xs;
    done = prints_then sink old mid new p.prefix xs (Ok tt) (Ok tt) p.done refl more;
    is = append_assoc p.prefix xs rest ∙ ap (λ t. p.prefix ++ t) (sym e) ∙ p.is;
  }

  -- the next pieces were rejected, so the rest is not printed
  pub printed_stop : (old mid new : SizeLimitedFmtAdapter S) (whole left xs rest : List (List ℕ)) (e : SinkRefused) (result : Result (Unit {0}) SinkRefused) → PrintedPrefix sink old whole left mid → left ≡ xs ++ rest → Prints sink mid xs (Err e) new → IsErr result → Prints sink old whole result new
  printed_stop old mid new whole left xs rest e result p is more err =
      let joined : p.prefix ++ (xs ++ rest) ≡ whole = ap (λ t. p.prefix ++ t) (sym is) ∙ p.is in
      let all = prints_then sink old mid new p.prefix xs (Ok tt) (Err e) p.done refl more in
      subst (λ ps. Prints sink old ps result new) (append_assoc p.prefix xs rest ∙ joined) (prints_stop sink old new (p.prefix ++ xs) rest (Err e) result all refl err)

  -- they are the last
  pub printed_last : (old mid new : SizeLimitedFmtAdapter S) (whole left xs : List (List ℕ)) (result : Result (Unit {0}) SinkRefused) → PrintedPrefix sink old whole left mid → left ≡ xs → Prints sink mid xs result new → Prints sink old whole result new
  printed_last old mid new whole left xs result p e last =
      subst (λ ps. Prints sink old ps result new) (ap (λ t. p.prefix ++ t) (sym e) ∙ p.is) (prints_then sink old mid new p.prefix xs (Ok tt) result p.done refl last)

  -- nothing is left
  pub printed_all : (old new : SizeLimitedFmtAdapter S) (whole left : List (List ℕ)) → PrintedPrefix sink old whole left new → left ≡ [] → Prints sink old whole (Ok tt) new
  printed_all old new whole left p e =
      subst (λ ps. Prints sink old ps (Ok tt) new) (sym (append-nil p.prefix) ∙ ap (λ t. p.prefix ++ t) (sym e) ∙ p.is) p.done
