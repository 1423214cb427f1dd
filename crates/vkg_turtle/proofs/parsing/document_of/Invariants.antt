use Rattle.std.proofs.Common.{◌≡◌, drop}
use Rattle.vkg_turtle.specs.Document.{document_of, begun}
use Rattle.vkg_turtle.proofs.parsing.document_of.Given as goal

abbrev pub invariant-loop-note : goal.invariant-loop-note
invariant-loop-note l = document_of (drop l.note-index l.notes) l.rest l.document ≡ document_of l.notes l.fn.lexemes (begun l.fn.base)
