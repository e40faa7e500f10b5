-- The numbers of advice (SPEC 4.8, 4.9).
use Rattle.std.specs.Prelude.{ℕ}
use Rattle.advice.specs.declared.Advised.{Advised}
use Rattle.advice.specs.declared.Advised.TheVariants.{Lost, Read, Fetch, InForm, OutOfForm}

abbrev pub advice_number : Advised → ℕ
advice_number Lost = 0
advice_number Read = 1
advice_number Fetch = 2
advice_number InForm = 3
advice_number OutOfForm = 4
