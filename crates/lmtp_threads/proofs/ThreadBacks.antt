-- What came back of all threads, by thread and by mailbox.
use Rattle.std.proofs.Common.{◌≡◌, ◌||◌, ℕ, Bool, List, [], ◌∷◌, length, map, refl, sym, ap, ◌∙◌, subst, arith}
use Rattle.std.specs.List.{AllZip, AllByRecursion, list_any}
use Rattle.std.specs.Vec.Iter.{into_iter_items}
use Rattle.std.specs.declared.vec.IntoIter.{IntoIter}
use Rattle.std.proofs.lemmas.List.{length-map}
use Rattle.std.proofs.lemmas.Option.{slice_get_within}
use Rattle.mail_world.specs.declared.Note.{Note}
use Rattle.mail_world.specs.declared.Slip.{Slip}
use Rattle.mail_post.specs.Channel.{Sender, Inbox}
use Rattle.box_worker.specs.declared.report.ThreadReport.{ThreadReport}
use Rattle.box_worker.specs.Shares.{KeptState, numbers_of}
use Rattle.lmtp_threads.specs.Works.{SpoolsView}
use Rattle.lmtp_threads.specs.Columns.{ColumnsState, HoldReports}
use Rattle.lmtp_threads.specs.Reports.{ThreadBack, thread_back, thread_parts}
use Rattle.lmtp_threads.specs.Tasks.{ThreadTask}
use Rattle.lmtp_threads.specs.ByThread.{numbers_at, AreTasksOf}
use Rattle.lmtp_threads.specs.ThreadWork.{IsThreadWork}
use Rattle.lmtp_threads.specs.BroughtBack.{BoxesState, AreDealt, IsAmong, HoldBoxes}
use Rattle.lmtp_threads.proofs.Pairs.{AllZip-length}
use Rattle.lmtp_threads.proofs.ChannelRows.{at, source, zip_at}
use Rattle.lmtp_threads.proofs.WorkedAll.{HoldAll}

map_twice : {X Y Z : Type 0} (f : Y → Z) (g : X → Y) (xs : List X) → map f (map g xs) ≡ map (λ x. f (g x)) xs
map_twice f g [] = refl
map_twice f g (x ∷ xs) = ap (λ l. f (g x) ∷ l) (map_twice f g xs)

any_map : {X Y : Type 0} (p : Y → Bool) (g : X → Y) (xs : List X) → list_any p (map g xs) ≡ list_any (λ x. p (g x)) xs
any_map p g [] = refl
any_map p g (x ∷ xs) = ap (λ b. p (g x) || b) (any_map p g xs)

zip_map : {X Y Z : Type 0} (R : X → Z → Type 0) (g : Y → Z) (xs : List X) (ys : List Y) → AllZip (λ x y. R x (g y)) xs ys → AllZip R xs (map g ys)
zip_map R g [] [] all = tt
zip_map R g [] (y ∷ ys) all = absurd all
zip_map R g (x ∷ xs) [] all = absurd all
zip_map R g (x ∷ xs) (y ∷ ys) all = (all.0, zip_map R g xs ys all.1)

same_maps : {X Y Z : Type 0} (f : X → Z) (g : Y → Z) (xs : List X) (ys : List Y) → AllZip (λ x y. g y ≡ f x) xs ys → map g ys ≡ map f xs
same_maps f g [] [] all = refl
same_maps f g [] (y ∷ ys) all = absurd all
same_maps f g (x ∷ xs) [] all = absurd all
same_maps f g (x ∷ xs) (y ∷ ys) all = λ i. all.0 i ∷ same_maps f g xs ys all.1 i

module _ {S : Type 0} (view : SpoolsView S) (count : ℕ) (tasks : List (ThreadTask S)) where
  -- each thread hands back the mailboxes that it was given
  dealt_back : (backs : List ThreadBack) → AreTasksOf count tasks → AllZip (IsThreadWork view) tasks backs
      → AreDealt 0 count (map (λ (r : ThreadBack). r.boxes) backs)
  dealt_back backs of all t own e =
      let back = source (λ (r : ThreadBack). r.boxes) backs t own e in
      let same = AllZip-length (IsThreadWork view) tasks backs all in
      let task = at tasks t (omega (arith, same, slice_get_within backs t back.value back.is)) in
      let work = zip_at (IsThreadWork view) tasks backs all t task.value back.value task.is back.is in
      let many : length tasks ≡ length (map (λ (r : ThreadBack). r.boxes) backs) = same ∙ sym (length-map backs (λ (r : ThreadBack). r.boxes)) in
      ap numbers_of back.gives ∙ (work.numbers ∙ (of.each t task.value task.is ∙ ap (λ n. numbers_at n t 0 count) many))

  module _ {N P G O A : Type 0} (reports : List (ThreadReport N P G O)) (threads : ColumnsState (Sender Slip) (Inbox Note) (IntoIter KeptState A) (Unit {0}))
      (hold : HoldReports thread_parts reports threads) where
    abbrev pub backs : List ThreadBack
    backs = map thread_back reports

    boxes_are : map into_iter_items threads.lent ≡ map (λ (r : ThreadBack). r.boxes) backs
    boxes_are = same_maps (λ r. r.boxes.items) into_iter_items reports threads.lent hold.lent ∙ sym (map_twice (λ (r : ThreadBack). r.boxes) thread_back reports)

    pub all_back : AllZip (λ task r. IsThreadWork view task (thread_back r)) tasks reports → AllZip (IsThreadWork view) tasks backs
    all_back all = zip_map (IsThreadWork view) thread_back tasks reports all

    pub dealt : AreTasksOf count tasks → AllZip (λ task r. IsThreadWork view task (thread_back r)) tasks reports → AreDealt 0 count (map into_iter_items threads.lent)
    dealt of all = subst (AreDealt 0 count) (sym boxes_are) (dealt_back backs of (all_back all))

    pub hold_all : (held : BoxesState S) (room : ℕ) → HoldBoxes view count (map into_iter_items threads.lent) held
        → HoldAll view count backs (record { rows = threads.rows; inboxes = threads.inboxes; lent = held.lent; tallies = held.tallies; gone = threads.gone; room = room })
    hold_all held room boxes = record {
      rows = hold.rows ∙ sym (map_twice (λ (r : ThreadBack). r.slips) thread_back reports);
      inboxes = hold.inboxes ∙ sym (map_twice (λ (r : ThreadBack). r.receiver) thread_back reports);
      gone = hold.gone ∙ sym (any_map (λ (r : ThreadBack). r.lost) thread_back reports);
      came = boxes.came;
      numbers = boxes.numbers;
      among = subst (λ l. AllByRecursion (IsAmong l) boxes.came) boxes_are boxes.among;
      lent = boxes.lent;
      tallies = boxes.tallies;
    }
