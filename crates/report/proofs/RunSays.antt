-- What is written is what is printed, and says what that says.
use Rattle.std.proofs.Common.{List, ℕ, None, Some, Result, Ok, Err, OnOk}
use Rattle.std.specs.declared.option.Option.{Option}
use Rattle.report.specs.Report.{fit_text}
use Rattle.report.specs.Run.{Printed, WrittenSays}
use Rattle.report.proofs.Says.{fit_says}
use Rattle.report.proofs.Printed.{none_says, refused_says}
use Rattle.report.proofs.ListPrinted.{list_says}

pub written_says : (read before after : Option (List ℕ)) → Printed read before after → WrittenSays read before after
written_says None before after p = tt
written_says (Some text) None after p = tt
written_says (Some text) (Some old) None p = absurd p
written_says (Some text) (Some old) (Some new) p =
    (fit_text text, p, fit_says text, none_says text, list_says text, refused_says text)

pub ok_says : {A E : Type 0} (r : Result A E) (read before after : Option (List ℕ))
    → OnOk r (Printed read before after) → OnOk r (WrittenSays read before after)
ok_says (Ok x) read before after p = written_says read before after p
ok_says (Err e) read before after p = tt
