-- What a writer writes, counted, as a text is that is quoted (mbox_spool's Counts).
use Rattle.std.proofs.Common.{◌≡◌, ℕ, ◌+◌, ◌-◌, ◌^◌, ◌<◌, min, List, [], ◌∷◌, ◌++◌, length, take, drop, true, false, refl, sym, ap, ◌∙◌}
use Rattle.std.proofs.Common.{slice_index_or, append_assoc}
use Rattle.mail_world.specs.Counts.{counted}
use Rattle.mail_world.specs.Marks.{was}
use Rattle.mail_world.specs.Text.{lf}
use Rattle.mbox_marks.specs.declared.marking.Place.TheVariants.{Inside}
use Rattle.mbox_marks.specs.declared.marking.Found.{Found}
use Rattle.mbox_marks.specs.Marking.{Place, marks_owed}
use Rattle.mbox_marks.specs.Marked.{FindsMark}
use Rattle.mbox_spool.specs.Quoted.{Pending, quoted_owed}
use Rattle.mbox_spool.specs.Spool.{SpoolState}
use Rattle.mbox_spool.specs.Writing.{Writes, Counts}
use Rattle.mbox_record.specs.Writing.{Writer, IsWriter, bytes_owed}
use Rattle.mbox_spool.proofs.Counts.{nothing, onto, took, InSpool, counts_both, writes_of, counts_of}
use Rattle.mbox_record.proofs.Onward.{Writes-then}
use Rattle.mbox_record.proofs.Written.{HasWritten, Writes-none, begins, up_to, with_was, looks_on, holds, one_more, writes_held, next_rest, none_held, owed_parts}

-- ---- a piece, mark by mark

pub bytes_begin : (first : Pending) (place : Place) (bytes : List ℕ) (found : Found) → FindsMark place bytes found
    → InSpool (λ t. HasWritten nothing t first place bytes first bytes found) 0
bytes_begin first place bytes found y = record { spool = nothing; holds = begins nothing first place bytes found y; is = refl }

module _ (first : Pending) (place : Place) (bytes : List ℕ) (quoted : Pending) (rest : List ℕ) (found : Found) (count : ℕ)
    (x : InSpool (λ t. HasWritten nothing t first place bytes quoted rest found) count) where
  -- the bytes up to it, and its new name
  pub bytes_more : found.is_mark ≡ true → (at_mark renamed : Pending) (before named : ℕ)
      → Counts before (λ more. quoted_owed quoted (take found.at rest ++ more)) (quoted_owed at_mark)
      → Counts named (λ more. quoted_owed at_mark (was ++ more)) (quoted_owed renamed)
      → (sum all : ℕ) → sum ≡ min (count + before) (2 ^ 64 - 1) → all ≡ min (sum + named) (2 ^ 64 - 1)
      → (next : Found) → FindsMark Inside (take (length rest - found.at) (drop found.at rest)) next
      → InSpool (λ t. HasWritten nothing t first place bytes renamed (take (length rest - found.at) (drop found.at rest)) next) all
  bytes_more mark at_mark renamed before named y z sum all is_sum is_all next finds =
      let t : SpoolState = onto x.spool y.text in
      let u : SpoolState = onto t z.text in
      let inside = x.holds.inside mark in
      record {
        spool = u;
        holds = looks_on nothing u first place bytes renamed rest found.at next
            (with_was nothing t u first place bytes at_mark rest found
            (up_to nothing x.spool t first place bytes quoted rest found x.holds at_mark (writes_of x.spool before _ _ y))
            mark inside renamed (writes_of t named _ _ z)) finds;
        is = counts_both sum named all t.bytes z.text (counts_both count before sum x.spool.bytes y.text x.is y.is is_sum) z.is is_all;
      }

  -- the last of them, and what is held back
  pub bytes_end : found.is_mark ≡ false → (last : Pending) (more : ℕ)
      → Counts more (λ then. quoted_owed quoted (take found.at rest ++ then)) (quoted_owed last)
      → (all : ℕ) → all ≡ min (count + more) (2 ^ 64 - 1)
      → (writer : Writer) → writer.quoted ≡ last → writer.place ≡ found.place → writer.held ≡ drop found.at rest
      → Counts all (λ then. quoted_owed first (marks_owed place (bytes ++ then))) (bytes_owed writer)
  bytes_end none last more y all is_all writer a b c =
      let t : SpoolState = onto x.spool y.text in
      counts_of all _ _ (record {
        spool = t;
        holds = holds nothing x.spool t first place bytes quoted rest found x.holds last none
            (up_to nothing x.spool t first place bytes quoted rest found x.holds last (writes_of x.spool more _ _ y)) writer a b c;
        is = counts_both count more all x.spool.bytes y.text x.is y.is is_all;
      })

-- ---- bytes that are held back, and the end

pub writer_begins : (writer : Writer) (piece : List ℕ)
    → InSpool (λ t. Writes nothing t (λ rest. bytes_owed writer (piece ++ rest)) (λ rest. bytes_owed writer (piece ++ rest))) 0
writer_begins writer piece = record { spool = nothing; holds = Writes-none nothing (λ rest. bytes_owed writer (piece ++ rest)); is = refl }

module _ (f : List ℕ → List ℕ) (writer view : Writer) (rest : List ℕ) (count : ℕ) (e : writer ≡ view)
    (x : InSpool (λ t. Writes nothing t f (λ more. bytes_owed view (rest ++ more))) count) where
  -- one byte more, with those that were held back
  pub held_more : 0 < length rest → (held : List ℕ) → held ≡ writer.held ++ slice_index_or rest 0 0 ∷ []
      → (next : Writer) (more : ℕ) → Counts more (λ then. quoted_owed writer.quoted (marks_owed writer.place (held ++ then))) (bytes_owed next)
      → (all : ℕ) → all ≡ min (count + more) (2 ^ 64 - 1)
      → InSpool (λ t. Writes nothing t f (λ then. bytes_owed next (take (length rest - 1) (drop 1 rest) ++ then))) all
  held_more some held is next more y all is_all =
      let t : SpoolState = onto x.spool y.text in
      record {
        spool = t;
        holds = next_rest nothing t f next rest 1
            (writes_held nothing x.spool t f writer.quoted writer.place held (drop 1 rest) next
            (one_more nothing x.spool f writer view rest held e some is x.holds) (writes_of x.spool more _ _ y));
        is = counts_both count more all x.spool.bytes y.text x.is y.is is_all;
      }

  -- nothing is held back
  pub none_more : length writer.held ≡ 0 → (next : Writer) (more : ℕ)
      → Counts more (λ then. quoted_owed writer.quoted (marks_owed writer.place (rest ++ then))) (bytes_owed next)
      → (all : ℕ) → all ≡ min (count + more) (2 ^ 64 - 1) → Counts all f (bytes_owed next)
  none_more none next more y all is_all =
      let t : SpoolState = onto x.spool y.text in
      counts_of all f (bytes_owed next) (record {
        spool = t;
        holds = Writes-then nothing x.spool t f _ (bytes_owed next) (none_held nothing x.spool f writer view rest e none x.holds)
            (writes_of x.spool more _ _ y);
        is = counts_both count more all x.spool.bytes y.text x.is y.is is_all;
      })

-- the end of the message
pub end_counts : (writer view : Writer) → writer ≡ view → IsWriter writer → (next : Pending) (count more all : ℕ)
    → Counts count (λ then. quoted_owed writer.quoted (writer.held ++ then)) (quoted_owed next)
    → more ≡ counted (length (quoted_owed next [] ++ lf ∷ [])) → all ≡ min (count + more) (2 ^ 64 - 1)
    → all ≡ counted (length (bytes_owed view [] ++ lf ∷ []))
end_counts writer view is h next count more all y is_more is_all =
    let t : SpoolState = onto nothing y.text in
    let x : Writes nothing t (λ then. quoted_owed writer.quoted (writer.held ++ then)) (quoted_owed next) =
    record { text = y.text; taken = took nothing y.text; goes = y.goes } in
    counts_both count more all y.text (quoted_owed next [] ++ lf ∷ []) y.is is_more is_all
    ∙ ap (λ (l : List ℕ). counted (length l)) (sym (owed_parts writer view is h nothing t t next x))

-- past the marks a writer counts as a text does
pub counts_alike : (count : ℕ) (f g h k : List ℕ → List ℕ) → Counts count f g → ((text : List ℕ) → h text ≡ f text) → ((text : List ℕ) → k text ≡ g text)
    → Counts count h k
counts_alike count f g h k y before after = record {
  text = y.text;
  is = y.is;
  goes = λ rest. ap (λ (l : List ℕ). y.text ++ l) (after rest) ∙ y.goes rest ∙ sym (before rest);
}

-- and one count after another
pub counts_then : (n m sum : ℕ) (f g h : List ℕ → List ℕ) → Counts n f g → Counts m g h → sum ≡ min (n + m) (2 ^ 64 - 1) → Counts sum f h
counts_then n m sum f g h x y e = record {
  text = x.text ++ y.text;
  is = counts_both n m sum x.text y.text x.is y.is e;
  goes = λ rest. append_assoc x.text y.text (h rest) ∙ ap (λ (l : List ℕ). x.text ++ l) (y.goes rest) ∙ x.goes rest;
}
