use Rattle.std.proofs.Common.{◌≡◌, drop}
use Rattle.amd64_form.specs.Form.{parts_of, fit}
use Rattle.amd64_form.proofs.form.Form.fit.Given as goal

-- what is left of the bytes stands to what is left of the parts as all of them do
abbrev pub invariant-loop-i : goal.invariant-loop-i
invariant-loop-i l =
    record {
      items : l.part-items ≡ parts_of l.fn.self;
      rest : fit (drop l.i l.part-items) (drop l.i l.bytes) ≡ fit (parts_of l.fn.self) l.bytes;
    }
