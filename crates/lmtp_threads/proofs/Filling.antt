-- Columns that take reports one after another.
use Rattle.std.proofs.Common.{◌≡◌, ℕ, ◌+◌, ◌<◌, ◌≤◌, Bool, true, false, ◌||◌, List, [], ◌∷◌, ◌++◌, length, map, refl, sym, ap, ◌∙◌, subst, arith}
use Rattle.std.proofs.Common.{Some, length-append, append-nil}
use Rattle.std.specs.Prelude.{slice_get}
use Rattle.std.specs.List.{AllByRecursion, list_any}
use Rattle.std.proofs.lemmas.List.{append_assoc, length-map, map-append}
use Rattle.std.proofs.lemmas.List.Folds.{list_any-append}
use Rattle.lmtp_threads.specs.Columns.{ColumnsState, no_columns, with_thread, ReportParts, TakesReport, HoldReports}
use Rattle.lmtp_threads.proofs.MovedLists.{neither}
use Rattle.lmtp_threads.proofs.Pairs.{AllZip-snoc}
use Rattle.lmtp_threads.proofs.ChannelRows.{at_map}

or_false : (b : Bool) → (b || false) ≡ b
or_false true = refl
or_false false = refl

-- where no element passes, each fails
pub each_fails : {X : Type 0} (p : X → Bool) (xs : List X) → list_any p xs ≡ false → AllByRecursion (λ x. p x ≡ false) xs
each_fails p [] none = tt
each_fails p (x ∷ xs) none = let two = neither (p x) (list_any p xs) (list_any p (x ∷ xs)) refl none in (two.0, each_fails p xs two.1)

-- what a column has of the report at a place
pub at_column : {X Y : Type 0} (part : X → Y) (reports : List X) (column : List Y) → column ≡ map part reports → (k : ℕ) (x : X)
    → slice_get reports k ≡ Some x → slice_get column k ≡ Some (part x)
at_column part reports column is k x at = subst (λ l. slice_get l k ≡ Some (part x)) (sym is) (at_map part reports k x at)

pub column_count : {X Y : Type 0} (part : X → Y) (reports : List X) (column : List Y) → column ≡ map part reports → length column ≡ length reports
column_count part reports column is = ap length is ∙ length-map reports part

column_more : {X Y : Type 0} (part : X → Y) (reports : List X) (x : X) (column : List Y) → column ≡ map part reports
    → column ++ part x ∷ [] ≡ map part (reports ++ x ∷ [])
column_more part reports x column is = ap (λ l. l ++ part x ∷ []) is ∙ sym (map-append part reports (x ∷ []))

-- this part of the first reports is done, and there is room for that of the rest
pub record IsApart {X Y : Type 0} (part : X → Y) (done : List Y) (room : ℕ) (rest all : List X) : Type 0 where
  pub fits : length done + length rest ≤ room
  pub whole : done ++ map part rest ≡ map part all

module _ {R A B L T : Type 0} (parts : ReportParts R A B L T) where
  of_more : (reports : List R) (report : R) (old new : ColumnsState A B L T) → HoldReports parts reports old → TakesReport parts report old new
      → HoldReports parts (reports ++ report ∷ []) new
  of_more reports report old new are takes =
      let filled : HoldReports parts (reports ++ report ∷ [])
      (with_thread old (parts.row report) (parts.inbox report) takes.lent (parts.tally report) (parts.gone report)) = record {
        rows = column_more parts.row reports report old.rows are.rows;
        inboxes = column_more parts.inbox reports report old.inboxes are.inboxes;
        lent = AllZip-snoc parts.TellsOf reports old.lent report takes.lent are.lent takes.tells;
        tallies = column_more parts.tally reports report old.tallies are.tallies;
        gone = ap (λ b. b || parts.gone report) are.gone
            ∙ (ap (λ b. list_any parts.gone reports || b) (sym (or_false (parts.gone report))) ∙ sym (list_any-append parts.gone reports (report ∷ [])));
      } in
      subst (HoldReports parts (reports ++ report ∷ [])) (sym takes.is) filled

  -- the columns are of the first reports, and there is room for the rest
  pub record AreFilling (rest all : List R) (columns : ColumnsState A B L T) : Type 0 where
    pub done : List R
    pub whole : done ++ rest ≡ all
    pub are : HoldReports parts done columns
    pub fits : length done + length rest ≤ columns.room

  pub filling_none : (rest all : List R) (columns : ColumnsState A B L T) → rest ≡ all → columns ≡ no_columns (length all) → AreFilling rest all columns
  filling_none rest all columns is none = subst (AreFilling rest all) (sym none) (record {
    done = [];
    whole = is;
    are = record { rows = refl; inboxes = refl; lent = tt; tallies = refl; gone = refl };
    fits = omega (arith, ap length is);
  })

  module _ {rest all : List R} {columns : ColumnsState A B L T} (filling : AreFilling rest all columns) where
    pub filling_fits : (report : R) (rest' : List R) → rest ≡ report ∷ rest' → length columns.rows < columns.room
    filling_fits report rest' is = omega (arith, filling.fits, column_count parts.row filling.done columns.rows filling.are.rows, ap length is)

    pub filling_more : (report : R) (rest' : List R) (new : ColumnsState A B L T) → rest ≡ report ∷ rest' → TakesReport parts report columns new
        → AreFilling rest' all new
    filling_more report rest' new is takes = record {
      done = filling.done ++ report ∷ [];
      whole = append_assoc filling.done (report ∷ []) rest' ∙ (ap (λ l. filling.done ++ l) (sym is) ∙ filling.whole);
      are = of_more filling.done report columns new filling.are takes;
      fits = omega (arith, filling.fits, ap length is, length-append filling.done (report ∷ []), ap (λ (c : ColumnsState A B L T). c.room) takes.is);
    }

    pub filling_all : rest ≡ [] → HoldReports parts all columns
    filling_all none =
        subst (λ l. HoldReports parts l columns) (sym (append-nil filling.done) ∙ (ap (λ l. filling.done ++ l) (sym none) ∙ filling.whole)) filling.are
