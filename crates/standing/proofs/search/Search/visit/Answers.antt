use Rattle.std.proofs.Common.{arith}
use Rattle.std.proofs.lemmas.Result.{err_from_is_err_and}
use Rattle.standing.proofs.Searches.{visit_refused, visit_none, next_refused, next_noted, other_refused, other_noted}
use Rattle.standing.proofs.search.Search.visit.Goals as goal

pub returns-in_err-next-clause-visited : goal.returns-in_err-next-clause-visited
returns-in_err-next-clause-visited c =
    let p = err_from_is_err_and c.from_residual.result c.from_residual.ensures.1 in
    rw p.1 (visit_refused c.requires _ c.in_err-next.ensures)

pub returns-in_err-note-clause-visited : goal.returns-in_err-note-clause-visited
returns-in_err-note-clause-visited c =
    let p = err_from_is_err_and c.from_residual-in_err-note.result c.from_residual-in_err-note.ensures.1 in
    rw p.1 (next_refused c.requires _ (rw c.in-Some.is at c.in_ok-next.ensures) c.note.new.self.entries.now c.note.new.self.pending.now.items c.in_err-note.field-0.0 c.in_err-note.ensures.noted)

pub note-requires-in-Some : goal.note-requires-in-Some
note-requires-in-Some c =
    let s = next_noted c.requires _ (rw c.in-Some.is at c.in_ok-next.ensures) _ _ c.in_ok-note.ensures.noted in
    omega (arith, s.still.long, s.still.room)

pub returns-in_err-note-2-clause-visited : goal.returns-in_err-note-2-clause-visited
returns-in_err-note-2-clause-visited c =
    let p = err_from_is_err_and c.from_residual-in_err-note-2.result c.from_residual-in_err-note-2.ensures.1 in
    rw p.1 (other_refused c.requires _ (rw c.in-Some.is at c.in_ok-next.ensures) _ _ c.in_ok-note.ensures.noted c.note-in-Some.new.self.entries.now c.note-in-Some.new.self.pending.now.items c.in_err-note-2.field-0.0 (rw c.in_ok-note.ensures.same_code at c.in_err-note-2.ensures.noted))

pub returns-in_ok-note-2-clause-visited : goal.returns-in_ok-note-2-clause-visited
returns-in_ok-note-2-clause-visited c =
    other_noted c.requires _ (rw c.in-Some.is at c.in_ok-next.ensures) _ _ c.in_ok-note.ensures.noted _ _ (rw c.in_ok-note.ensures.same_code at c.in_ok-note-2.ensures.noted)

pub returns-in_default-clause-visited : goal.returns-in_default-clause-visited
returns-in_default-clause-visited c =
    (visit_none c.requires (rw c.in_default.is at c.in_ok-next.ensures), omega arith)
