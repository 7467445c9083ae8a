-- The promise of a printer that puts pieces into a sink.
use Rattle.std.proofs.Common.{◌≡◌, ℕ, List, [], ◌++◌, Result, false, Ok, Err, OnOk, refl}
use Rattle.demangle_sink.specs.declared.TextSink.{Ghosts}
use Rattle.demangle_sink.specs.declared.SinkRefused.{SinkRefused}
use Rattle.demangle_sink.specs.PutsPieces.{PutsPieces}
use Rattle.demangle_sink.specs.Writes.{Writes}
use Rattle.demangle_sink.proofs.PutsPiecesLemmas.{puts_text, puts_failed, puts_kept, puts_fits}

-- after an `Ok`, the sink has not failed
puts_alive : {S : Type 0} (sink : Ghosts S) (old new : S) (list : List (List ℕ)) (result : Result (Unit {0}) SinkRefused)
    → PutsPieces sink old list result new → OnOk result (sink.failed new ≡ false)
puts_alive sink old new list (Ok u) h = (h.all refl).not_failed
puts_alive sink old new list (Err e) h = tt

pub puts_writes : {S : Type 0} (sink : Ghosts S) (old new : S) (list : List (List ℕ)) (result : Result (Unit {0}) SinkRefused)
    → ((s : S) → sink.took s [] s)
    → ((s t u : S) (ps qs : List ℕ) → sink.took s ps t → sink.took t qs u → sink.took s (ps ++ qs) u)
    → PutsPieces sink old list result new → Writes sink old list result new
puts_writes sink old new list result nothing joined h = record {
  text = puts_text sink old new list result nothing joined h;
  not_failed = puts_alive sink old new list result h;
  failed = puts_failed sink old new list result h;
  kept = puts_kept sink old new list result nothing joined h;
  fits = puts_fits sink old new list result h;
  room = λ f. (h.fits f).room;
}
