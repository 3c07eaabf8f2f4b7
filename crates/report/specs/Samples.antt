-- Sample sheets, with what is printed for each where so many choices are allowed: those of the program but for one,
-- since no sheet that needs a million can be computed here.
use Rattle.std.specs.Prelude.{◌≡◌, ℕ, List, [], ◌∷◌, ◌++◌, map}
use Rattle.sheet.specs.Form.{ascii}
use Rattle.report.specs.Texts.{cap}
use Rattle.report.specs.Report.{text_under}

pub record Sample : Type 0 where
  pub sheet : List ℕ
  pub most : ℕ
  pub output : List ℕ

-- the sheet of examples/page-notes.sheet, with the prices 1 to 4: found with 6 choices, and the step from 1 to 2
-- struck, at its price; that from 2, which is not reached without it, is struck after that
abbrev pub first : Sample
first =
    record {
      sheet =
          ascii "states edges nodes props\n3 4 5 1\ninitial label\n1 0\n0 1\n0 1\n"
          ++ ascii "from to price\n0 1 1\n1 0 2\n1 2 3\n2 2 4\nkind a b\n0 0 0\n2 0 0\n9 0 1\n3 2 0\n8 0 3\n";
      most = cap;
      output = ascii "answer choices price\nfound 6 3\nfrom to kept\n0 1 1\n1 0 1\n1 2 0\n2 2 0\n";
    }

-- one state, step 0 0, rule A[p0 V p1], with labels 1, 2 and 3
abbrev pub loop1 : Sample
loop1 =
    record {
      sheet =
          ascii "states edges nodes props\n1 1 3 2\ninitial label\n1 1\n"
          ++ ascii "from to price\n0 0 5\nkind a b\n2 0 0\n2 1 0\n8 0 1\n";
      most = cap;
      output = ascii "answer choices price\nnone 0 0\n";
    }

abbrev pub loop2 : Sample
loop2 =
    record {
      sheet =
          ascii "states edges nodes props\n1 1 3 2\ninitial label\n1 2\n"
          ++ ascii "from to price\n0 0 5\nkind a b\n2 0 0\n2 1 0\n8 0 1\n";
      most = cap;
      output = ascii "answer choices price\nfound 0 0\nfrom to kept\n0 0 1\n";
    }

abbrev pub loop3 : Sample
loop3 =
    record {
      sheet =
          ascii "states edges nodes props\n1 1 3 2\ninitial label\n1 3\n"
          ++ ascii "from to price\n0 0 5\nkind a b\n2 0 0\n2 1 0\n8 0 1\n";
      most = cap;
      output = ascii "answer choices price\nfound 0 0\nfrom to kept\n0 0 1\n";
    }

-- states 0 and 1 both initial, labels 1 and 0, steps 0 0 and 1 1, rule p0
abbrev pub two_loops : Sample
two_loops =
    record {
      sheet =
          ascii "states edges nodes props\n2 2 1 1\ninitial label\n1 1\n1 0\n"
          ++ ascii "from to price\n0 0 0\n1 1 255\nkind a b\n2 0 0\n";
      most = cap;
      output = ascii "answer choices price\nfound 0 255\nfrom to kept\n0 0 1\n1 1 0\n";
    }

-- two states, 0 initial, only step 0 1, rule true
abbrev pub dead_end : Sample
dead_end =
    record {
      sheet =
          ascii "states edges nodes props\n2 1 1 0\ninitial label\n1 0\n0 0\nfrom to price\n0 1 0\nkind a b\n1 0 0\n";
      most = cap;
      output = ascii "answer choices price\nnone 0 0\n";
    }

-- an empty text, and a step given twice, at two prices
abbrev pub empty : Sample
empty = record { sheet = []; most = cap; output = ascii "answer number\nrefused 1\n" }

abbrev pub repeated : Sample
repeated =
    record {
      sheet =
          ascii "states edges nodes props\n2 2 1 0\ninitial label\n1 0\n0 0\n"
          ++ ascii "from to price\n0 1 1\n0 1 2\nkind a b\n1 0 0\n";
      most = cap;
      output = ascii "answer number\nrefused 7\n";
    }

-- the first sheet, which needs 6 choices, where 5 are allowed
abbrev pub first_spent : Sample
first_spent = record { sheet = first.sheet; most = 5; output = ascii "answer choices price\nspent 5 0\n" }

abbrev pub samples : List Sample
samples = first ∷ first_spent ∷ loop1 ∷ loop2 ∷ loop3 ∷ two_loops ∷ dead_end ∷ empty ∷ repeated ∷ []

abbrev pub SamplesPrinted : Type 0
SamplesPrinted = map (λ (s : Sample). text_under s.most s.sheet) samples ≡ map (λ (s : Sample). s.output) samples
