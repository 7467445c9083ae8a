use Rattle.std.proofs.Common.{refl, sym, ap, subst, ◌∙◌, arith, take, ◌-◌, ◌≤◌, length}
use Rattle.std.specs.List.{list_all}
use Rattle.std.proofs.lemmas.List.{length-take}
use Rattle.std.proofs.lemmas.List.Sums.{prefix_len-le-length}
use Rattle.std.proofs.lemmas.Result.{err_from_is_err_and}
use Rattle.demangle_value.specs.Filtered.{is_run_byte}
use Rattle.rustc_demangle.specs.Rewritten.{replacement_of}
use Rattle.demangle_value.proofs.RunStarts.{all_prefix, far}
use Rattle.rustc_demangle.proofs.ByteStreamLemmas.{text_kept, text_run, found_open, found_beginning, found_some}
use Rattle.rustc_demangle.proofs.LinearLooks.{no_looks}
use Rattle.rustc_demangle.proofs.stream.pending_run.Pending.filter_text.Goals as goal

-- A body that looks before it allocates fails here.
pub returns-in_err-buffer_bytes-clause-unread : goal.returns-in_err-buffer_bytes-clause-unread
returns-in_err-buffer_bytes-clause-unread g c =
    let p = err_from_is_err_and c.from_residual.result c.from_residual.ensures.1 in
    rw (p.1, p.2) (no_looks _ c.args.looks.now)

pub returns-in_err-write_unchanged-clause-pending : goal.returns-in_err-write_unchanged-clause-pending
returns-in_err-write_unchanged-clause-pending g c =
    found_beginning _ _ _ _ _ _ _ (length c.args.available.now - c.partial_prefix_len.result) _ c.requires.none c.split_at.ensures.front c.split_at.ensures.back c.in_ok-buffer_bytes.ensures.ok
    c.after-self.ensures (omega arith) c.plain_len.ensures c.partial_prefix_len.ensures.pending

pub returns-in_default-clause-pending : goal.returns-in_default-clause-pending
returns-in_default-clause-pending g c =
    found_beginning _ _ _ _ _ _ _ (length c.args.available.now - c.partial_prefix_len.result) _ c.requires.none c.split_at.ensures.front c.split_at.ensures.back c.in_ok-buffer_bytes.ensures.ok
    c.after-self.ensures (omega arith) c.plain_len.ensures c.partial_prefix_len.ensures.pending

pub returns-in_default-clause-ok : goal.returns-in_default-clause-ok
returns-in_default-clause-ok g c =
    text_kept (replacement_of c.args.memo.now) _ _ _ _ _ _ _ (length c.args.available.now - c.partial_prefix_len.result) _ _ _ c.requires.none c.split_at.ensures.front c.split_at.ensures.back c.in_ok-buffer_bytes.ensures.ok
    c.after-self.ensures (omega arith) c.plain_len.ensures (c.partial_prefix_len.ensures.uncut c.in_default.ensures.none) c.in_ok-write_unchanged.ensures.ok

pub returns-in_err-write_unchanged-2-clause-pending : goal.returns-in_err-write_unchanged-2-clause-pending
returns-in_err-write_unchanged-2-clause-pending g c =
    found_open _ _ _ _ _ _ _ c.in-Some.start _ _ c.requires.none c.split_at-2.ensures.front c.split_at-2.ensures.back c.in_ok-buffer_bytes-2.ensures.ok
    c.after-self-then-len-found.ensures (omega (arith, c.in-Some.ensures.some.0)) c.plain_len-2.ensures c.in-Some.ensures.some.1 c.run_len-len.ensures c.if-len-found.true

pub returns-then-len-found-clause-pending : goal.returns-then-len-found-clause-pending
returns-then-len-found-clause-pending g c =
    found_open _ _ _ _ _ _ _ c.in-Some.start _ _ c.requires.none c.split_at-2.ensures.front c.split_at-2.ensures.back c.in_ok-buffer_bytes-2.ensures.ok
    c.after-self-then-len-found.ensures (omega (arith, c.in-Some.ensures.some.0)) c.plain_len-2.ensures c.in-Some.ensures.some.1 c.run_len-len.ensures c.if-len-found.true

pub returns-then-len-found-clause-ok : goal.returns-then-len-found-clause-ok
returns-then-len-found-clause-ok g c =
    text_kept (replacement_of c.args.memo.now) _ _ _ _ _ _ _ c.in-Some.start _ _ _ c.requires.none c.split_at-2.ensures.front c.split_at-2.ensures.back c.in_ok-buffer_bytes-2.ensures.ok
    c.after-self-then-len-found.ensures (omega (arith, c.in-Some.ensures.some.0)) c.plain_len-2.ensures (far _ _ c.in-Some.ensures.some.1 c.in-Some.ensures.some.2) c.in_ok-write_unchanged-2.ensures.ok

pub write_candidate-requires-clause-some : goal.write_candidate-requires-clause-some
write_candidate-requires-clause-some g c =
    let some = found_some c.args.self.now.before c.args.available.now c.split_at-2.result.1.now c.in-Some.start c.plain_len-2.result c.split_at-2.ensures.back (omega (arith, c.in-Some.ensures.some.0)) c.plain_len-2.ensures c.in-Some.ensures.some.1 in
    omega (arith, length-take c.run_len-len.result c.split_at-2.result.1.now, c.run_len-len.ensures, some.0, some.1)

pub write_candidate-requires-clause-all : goal.write_candidate-requires-clause-all
write_candidate-requires-clause-all g c = ap (λ n. list_all is_run_byte (take n c.split_at-2.result.1.now)) c.run_len-len.ensures ∙ all_prefix c.split_at-2.result.1.now

pub returns-clause-ok : goal.returns-clause-ok
returns-clause-ok g c =
    let le : c.run_len-len.result ≤ length c.split_at-2.result.1.now = subst (λ n. n ≤ length c.split_at-2.result.1.now) (sym c.run_len-len.ensures) (prefix_len-le-length is_run_byte c.split_at-2.result.1.now) in
    text_run (replacement_of c.args.memo.now) _ _ _ _ _ _ _ _ c.in-Some.start _ _ _ _ _ _ c.requires.none c.split_at-2.ensures.front c.split_at-2.ensures.back refl c.run_len-len.ensures (omega (arith, le, c.if-len-found.false))
    refl refl refl c.plain_len-2.ensures c.in-Some.ensures.some c.in_ok-write_unchanged-3.ensures.ok c.in_ok-write_candidate.ensures.ok

pub returns-clause-less : goal.returns-clause-less
returns-clause-less g c =
    let some = found_some c.args.self.now.before c.args.available.now c.split_at-2.result.1.now c.in-Some.start c.plain_len-2.result c.split_at-2.ensures.back (omega (arith, c.in-Some.ensures.some.0)) c.plain_len-2.ensures c.in-Some.ensures.some.1 in
    omega (arith, c.run_len-len.ensures, some.1)
