-- What threads hand back, a column for each part.
use Rattle.std.specs.Prelude.{◌≡◌, ℕ, Bool, false, ◌||◌, List, [], ◌∷◌, ◌++◌, map, vec_len, vec_capacity}
use Rattle.std.specs.List.{AllZip, list_any}
use Rattle.std.specs.declared.vec.Vec.{Vec}

-- the senders of each thread, its receiver, what it was lent, and what it says that it did; whether one of them found a
-- channel gone; and how many threads there is room for
pub record ColumnsState (A B L T : Type 0) : Type 0 where
  pub rows : List (List A)
  pub inboxes : List B
  pub lent : List L
  pub tallies : List T
  pub gone : Bool
  pub room : ℕ

-- a column is as long as another, and has as much room
abbrev pub IsBeside : {X Y P Q : Type 0} → Vec X P → Vec Y Q → Type 0
IsBeside one other = (vec_len one ≡ vec_len other) × (vec_capacity one ≡ vec_capacity other)

module _ {A B L T : Type 0} where
  -- nothing yet
  abbrev pub no_columns : ℕ → ColumnsState A B L T
  no_columns room = record { rows = []; inboxes = []; lent = []; tallies = []; gone = false; room = room }

  -- one more thread
  abbrev pub with_thread : ColumnsState A B L T → List A → B → L → T → Bool → ColumnsState A B L T
  with_thread columns row inbox lent tally gone = record {
    rows = columns.rows ++ row ∷ [];
    inboxes = columns.inboxes ++ inbox ∷ [];
    lent = columns.lent ++ lent ∷ [];
    tallies = columns.tallies ++ tally ∷ [];
    gone = columns.gone || gone;
    room = columns.room;
  }

-- which parts of a report R the columns have; of what the thread was lent the report tells something
pub record ReportParts (R A B L T : Type 0) : Type 1 where
  pub row : R → List A
  pub inbox : R → B
  pub TellsOf : R → L → Type 0
  pub tally : R → T
  pub gone : R → Bool

module _ {R A B L T : Type 0} (parts : ReportParts R A B L T) where
  -- one more report
  pub record TakesReport (report : R) (old new : ColumnsState A B L T) : Type 0 where
    pub lent : L
    pub tells : parts.TellsOf report lent
    pub is : new ≡ with_thread old (parts.row report) (parts.inbox report) lent (parts.tally report) (parts.gone report)

  -- these are the columns of these reports
  pub record HoldReports (reports : List R) (columns : ColumnsState A B L T) : Type 0 where
    pub rows : columns.rows ≡ map parts.row reports
    pub inboxes : columns.inboxes ≡ map parts.inbox reports
    pub lent : AllZip parts.TellsOf reports columns.lent
    pub tallies : columns.tallies ≡ map parts.tally reports
    pub gone : columns.gone ≡ list_any parts.gone reports
