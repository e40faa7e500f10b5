-- `forms::compile_forms` meets its contract: the invariant has the relations of the codes passed.
use Prim.Native.Nat.{◌+◌}
use Rattle.fetching.specs.Inner.Forms.{FormsBefore}
use Rattle.fetching.proofs.forms.compile_forms.Given as goal

abbrev pub invariant-loop-c : goal.invariant-loop-c
invariant-loop-c l = FormsBefore l.file.file.now (12 + l.c-index) l.table
