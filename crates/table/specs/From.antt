-- What `try_from` gives for bytes: the table that they are, or the refusal that they get.
use Rattle.std.specs.Prelude.{ℕ, ◌≡◌, List, Result, Ok, Err}
use Rattle.table.specs.declared.accepted.Accepted.{Accepted}
use Rattle.table.specs.declared.refusal.Refusal.{Refusal}
use Rattle.table.specs.Accept.{table_verdict}
use Rattle.table.specs.Facts.{IsTable}
use Rattle.table.specs.Refused.{TableRefused}

abbrev pub AcceptedFrom : List ℕ → Result Accepted Refusal → Type 0
AcceptedFrom bytes (Ok a) = (a.bytes.now ≡ bytes) × IsTable bytes
AcceptedFrom bytes (Err r) = (table_verdict bytes ≡ Err r) × TableRefused bytes r
