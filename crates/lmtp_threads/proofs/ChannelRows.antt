-- Channels of one kind, from their opening to what is settled.
use Rattle.std.proofs.Common.{◌≡◌, ℕ, zero, suc, ◌+◌, ◌<◌, false, List, [], ◌∷◌, ◌++◌, length, get_or, map, refl, sym, ap, ◌∙◌, subst, arith, length-append}
use Rattle.std.proofs.Common.{Option, Some, None, inl, inr}
use Rattle.std.proofs.lemmas.Bool.{cases_lt}
use Rattle.std.specs.Prelude.{slice_get, option_map}
use Rattle.std.specs.List.{All, AllZip, AllByRecursion}
use Rattle.std.proofs.lemmas.List.{length-map}
use Rattle.std.proofs.lemmas.Option.{slice_get-map, slice_get-get_or, slice_get_within, get_or_from_slice_get}
use Rattle.mail_post.specs.Channel.{Channel, Sender, Inbox, Sent, new_senders, AreSendersFrom, AreSendersOf, AreSenders}
use Rattle.lmtp_threads.specs.Grid.{IsTransposed}
use Rattle.lmtp_threads.specs.Channels.{lane_at, none, channels_of, IsNewChannel, AreRows, AreColumns, AreNewChannels, AreClosedWith, IsShut, HaveTimes}
use Rattle.lmtp_threads.specs.Channels.{HasGiven}
use Rattle.lmtp_threads.proofs.Pairs.{AllZip-length}

module _ {X : Type 0} where
  -- the element at a place, and what follows from it
  pub same_at : (xs : List X) (k : ℕ) (x y : X) → slice_get xs k ≡ Some x → slice_get xs k ≡ Some y → x ≡ y
  same_at xs k x y a b = let e : Some x ≡ Some y = sym a ∙ b in cc

  pub at_left : (xs ys : List X) (k : ℕ) (x : X) → slice_get xs k ≡ Some x → slice_get (xs ++ ys) k ≡ Some x
  at_left [] ys k x e = let bad : ◌≡◌ {A = Option X} None (Some x) = e in cc
  at_left (z ∷ xs) ys zero x e = e
  at_left (z ∷ xs) ys (suc k) x e = at_left xs ys k x e

  pub at_seam : (xs ys : List X) (y : X) (k : ℕ) → length xs ≡ k → slice_get (xs ++ y ∷ ys) k ≡ Some y
  at_seam [] ys y zero e = refl
  at_seam [] ys y (suc k) e = absurd (omega arith)
  at_seam (z ∷ xs) ys y zero e = absurd (omega arith)
  at_seam (z ∷ xs) ys y (suc k) e = at_seam xs ys y k (omega arith)

  -- each place within has its element
  pub record At (xs : List X) (k : ℕ) : Type 0 where
    pub value : X
    pub is : slice_get xs k ≡ Some value

  pub at : (xs : List X) (k : ℕ) → k < length xs → At xs k
  at [] k below = absurd (omega arith)
  at (x ∷ xs) zero below = record { value = x; is = refl }
  at (x ∷ xs) (suc k) below = let p = at xs k (omega arith) in record { value = p.value; is = p.is }

  pub All-at : (P : X → Type 0) (xs : List X) → ((k : ℕ) (x : X) → slice_get xs k ≡ Some x → P x) → All P xs
  All-at P xs h k d below = h k (get_or xs k d) (slice_get-get_or xs k d below)

  pub at_each : (P : X → Type 0) (xs : List X) → AllByRecursion P xs → (k : ℕ) (x : X) → slice_get xs k ≡ Some x → P x
  at_each P [] all k x e = let bad : ◌≡◌ {A = Option X} None (Some x) = e in absurd (cc)
  at_each P (y ∷ ys) all zero x e = subst P (let s : ◌≡◌ {A = Option X} (Some y) (Some x) = e in cc) all.0
  at_each P (y ∷ ys) all (suc k) x e = at_each P ys all.1 k x e

  pub each_at : (P : X → Type 0) (xs : List X) → ((k : ℕ) (x : X) → slice_get xs k ≡ Some x → P x) → AllByRecursion P xs
  each_at P [] h = tt
  each_at P (y ∷ ys) h = (h 0 y refl, each_at P ys (λ k x e. h (suc k) x e))

module _ {X Y : Type 0} where
  pub at_map : (f : X → Y) (xs : List X) (k : ℕ) (x : X) → slice_get xs k ≡ Some x → slice_get (map f xs) k ≡ Some (f x)
  at_map f xs k x e = slice_get-map f xs k ∙ ap (option_map f) e

  -- the element that was mapped
  pub record Source (f : X → Y) (xs : List X) (k : ℕ) (y : Y) : Type 0 where
    pub value : X
    pub is : slice_get xs k ≡ Some value
    pub gives : y ≡ f value

  pub source : (f : X → Y) (xs : List X) (k : ℕ) (y : Y) → slice_get (map f xs) k ≡ Some y → Source f xs k y
  source f [] k y e = let bad : ◌≡◌ {A = Option Y} None (Some y) = e in absurd (cc)
  source f (x ∷ xs) zero y e = record { value = x; is = refl; gives = let s : ◌≡◌ {A = Option Y} (Some (f x)) (Some y) = e in cc }
  source f (x ∷ xs) (suc k) y e = let p = source f xs k y e in record { value = p.value; is = p.is; gives = p.gives }

  pub zip_at : (R : X → Y → Type 0) (xs : List X) (ys : List Y) → AllZip R xs ys → (k : ℕ) (x : X) (y : Y) → slice_get xs k ≡ Some x → slice_get ys k ≡ Some y
      → R x y
  zip_at R [] ys all k x y a b = let bad : ◌≡◌ {A = Option X} None (Some x) = a in absurd (cc)
  zip_at R (z ∷ xs) [] all k x y a b = absurd all
  zip_at R (z ∷ xs) (w ∷ ys) all zero x y a b =
      let s : z ≡ x = (let e : ◌≡◌ {A = Option X} (Some z) (Some x) = a in cc) in
      let t : w ≡ y = (let e : ◌≡◌ {A = Option Y} (Some w) (Some y) = b in cc) in
      subst (λ v. R v y) s (subst (λ v. R z v) t all.0)
  zip_at R (z ∷ xs) (w ∷ ys) all (suc k) x y a b = zip_at R xs ys all.1 k x y a b

  pub at_zip : (R : X → Y → Type 0) (xs : List X) (ys : List Y) → length xs ≡ length ys
      → ((k : ℕ) (x : X) (y : Y) → slice_get xs k ≡ Some x → slice_get ys k ≡ Some y → R x y) → AllZip R xs ys
  at_zip R [] [] same h = tt
  at_zip R [] (y ∷ ys) same h = absurd (omega arith)
  at_zip R (x ∷ xs) [] same h = absurd (omega arith)
  at_zip R (x ∷ xs) (y ∷ ys) same h = (h 0 x y refl refl, at_zip R xs ys (omega arith) (λ k a b p q. h (suc k) a b p q))

module _ {T : Type 0} where
  -- an element of a turned grid
  pub turned_at : (g h : List (List T)) (i j : ℕ) (col row : List T) (x : T) → IsTransposed g h → slice_get g i ≡ Some col → slice_get h j ≡ Some row
      → slice_get col j ≡ Some x → slice_get row i ≡ Some x
  turned_at g h i j col row x turn a b e =
      let i_in = slice_get_within g i col a in
      let j_in = slice_get_within h j row b in
      let row_is : get_or h j [] ≡ row = get_or_from_slice_get h j row [] b in
      let col_is : get_or g i [] ≡ col = get_or_from_slice_get g i col [] a in
      let wide : length row ≡ length g = ap length (sym row_is) ∙ turn.widths j j_in in
      let same : get_or row i x ≡ x =
      ap (λ l. get_or l i x) (sym row_is) ∙ (turn.cells i j x i_in j_in ∙ (ap (λ l. get_or l j x) col_is ∙ get_or_from_slice_get col j x x e)) in
      slice_get-get_or row i x (omega (arith, wide, i_in)) ∙ ap (λ v. Some v) same

  pub turned_width : (g h : List (List T)) (j : ℕ) (row : List T) → IsTransposed g h → slice_get h j ≡ Some row → length row ≡ length g
  turned_width g h j row turn b = ap length (sym (get_or_from_slice_get h j row [] b)) ∙ turn.widths j (slice_get_within h j row b)

module _ {M : Type 0} where
  -- new senders
  pub new_count : (channel : Channel M) (n : ℕ) → length (new_senders channel n) ≡ n
  new_count channel zero = refl
  new_count channel (suc n) = length-append (new_senders channel n) _ ∙ omega (arith, new_count channel n)

  new_by : (channel : Channel M) (n k : ℕ) → k < suc n → (k < n → slice_get (new_senders channel n) k ≡ Some (lane_at channel k [] []))
      → slice_get (new_senders channel n ++ lane_at channel n [] [] ∷ []) k ≡ Some (lane_at channel k [] [])
  new_by channel n k below before =
      elim (cases_lt k n) [
        | inl low ↦ at_left (new_senders channel n) (lane_at channel n [] [] ∷ []) k (lane_at channel k [] []) (before low)
        | inr high ↦
            let same : n ≡ k = omega (arith, below, high) in
            at_seam (new_senders channel n) [] (lane_at channel n [] []) k (new_count channel n ∙ same) ∙ ap (λ j. Some (lane_at channel j [] [])) same
      ]

  new_at : (channel : Channel M) (n k : ℕ) → k < n → slice_get (new_senders channel n) k ≡ Some (lane_at channel k [] [])
  new_at channel zero k below = absurd (omega arith)
  new_at channel (suc n) k below = new_by channel n k below (new_at channel n k)

  module _ (capacity n : ℕ) (columns : List (List (Sender M))) (inboxes : List (Inbox M)) (all : AllZip (IsNewChannel capacity n) columns inboxes) where
    -- a new sender was told nothing, at no time
    new_cell : (b k : ℕ) (column : List (Sender M)) (channel : Channel M) → slice_get columns b ≡ Some column → slice_get (channels_of inboxes) b ≡ Some channel
        → k < n
        → slice_get column k ≡ Some (lane_at channel k [] [])
    new_cell b k column channel e f below =
        let p = source (λ (i : Inbox M). i.channel) inboxes b channel f in
        let new = zip_at (IsNewChannel capacity n) columns inboxes all b column p.value e p.is in
        ap (λ l. slice_get l k) new.senders_are ∙ (new_at p.value.channel n k below ∙ ap (λ (l : Channel M). Some (lane_at l k [] [])) (sym p.gives))

    pub columns_new : AreColumns n (channels_of inboxes) none columns
    columns_new = record {
      count = AllZip-length (IsNewChannel capacity n) columns inboxes all ∙ sym (length-map inboxes (λ (i : Inbox M). i.channel));
      widths = λ b column e.
          let p = at inboxes b (omega (arith, AllZip-length (IsNewChannel capacity n) columns inboxes all, slice_get_within columns b column e)) in
          let new = zip_at (IsNewChannel capacity n) columns inboxes all b column p.value e p.is in
          ap length new.senders_are ∙ new_count p.value.channel n;
      cells = λ b k column channel e f below. ([], new_cell b k column channel e f below);
    }

    new_row : (rows : List (List (Sender M))) → IsTransposed columns rows → length rows ≡ n → (k b : ℕ) (row : List (Sender M)) (channel : Channel M)
        → slice_get rows k ≡ Some row → slice_get (channels_of inboxes) b ≡ Some channel
        → slice_get row b ≡ Some (lane_at channel k [] [])
    new_row rows turn rows_count k b row channel e f =
        let c = at columns b (omega (arith, columns_new.count, slice_get_within (channels_of inboxes) b channel f)) in
        turned_at columns rows b k c.value row (lane_at channel k [] []) turn c.is e
        (new_cell b k c.value channel c.is f (omega (arith, rows_count, slice_get_within rows k row e)))

    pub rows_new : (count : ℕ) (rows : List (List (Sender M))) → IsTransposed columns rows → length rows ≡ n → length inboxes ≡ count
        → AreNewChannels capacity n count rows inboxes
    rows_new count rows turn rows_count inboxes_count = record {
      counts = inboxes_count;
      rows_are = record {
        count = rows_count;
        widths = λ k row e. turned_width columns rows k row turn e ∙ columns_new.count;
        cells = λ k b row channel e f. ([], new_row rows turn rows_count k b row channel e f);
      };
      timeless = λ k b row sender e f.
          let l = at (channels_of inboxes) b (omega (arith, turned_width columns rows k row turn e, columns_new.count, slice_get_within row b sender f)) in
          ap (λ (s : Sender M). s.sent_at) (same_at row b sender (lane_at l.value k [] []) f (new_row rows turn rows_count k b row l.value e l.is));
      inboxes_are = λ b inbox e.
          let c = at columns b (omega (arith, AllZip-length (IsNewChannel capacity n) columns inboxes all, slice_get_within inboxes b inbox e)) in
          (zip_at (IsNewChannel capacity n) columns inboxes all b c.value inbox c.is e).inbox_is;
    }

  -- the senders stand by their channels again
  pub turned_back : (n : ℕ) (channels : List (Channel M)) (sent : ℕ → ℕ → List M) (rows columns : List (List (Sender M))) → AreRows n channels sent rows
      → IsTransposed rows columns → length columns ≡ length channels
      → AreColumns n channels sent columns
  turned_back n channels sent rows columns are turn columns_count = record {
    count = columns_count;
    widths = λ b column e. turned_width rows columns b column turn e ∙ are.count;
    cells = λ b k column channel e f below.
        let r = at rows k (omega (arith, are.count, below)) in
        let cell = are.cells k b r.value channel r.is f in
        (cell.0, turned_at rows columns k b r.value column (lane_at channel k (sent k b) cell.0) turn r.is e cell.1);
  }

  lanes_from : (i : ℕ) (channel : Channel M) (xs : List (Sender M))
      → ((k : ℕ) (x : Sender M) → slice_get xs k ≡ Some x → (x.channel ≡ channel) × (x.number ≡ i + k)) → AreSendersFrom i channel xs
  lanes_from i channel [] h = tt
  lanes_from i channel (x ∷ xs) h =
      ((h 0 x refl).0, omega (arith, (h 0 x refl).1), lanes_from (i + 1) channel xs (λ k y e. ((h (suc k) y e).0, omega (arith, (h (suc k) y e).1))))

  lanes_by : (xs : List (Sender M)) (channel : Channel M) → 0 < length xs
      → ((k : ℕ) (x : Sender M) → slice_get xs k ≡ Some x → (x.channel ≡ channel) × (x.number ≡ k)) → AreSenders xs
  lanes_by [] channel some h = absurd (omega arith)
  lanes_by (x ∷ xs) channel some h = lanes_from 0 x.channel (x ∷ xs) (λ k y e. ((h k y e).0 ∙ sym (h 0 x refl).0, omega (arith, (h k y e).1)))

  column_at : (n : ℕ) (channels : List (Channel M)) (sent : ℕ → ℕ → List M) (columns : List (List (Sender M))) → AreColumns n channels sent columns
      → (b : ℕ) (column : List (Sender M)) (channel : Channel M)
      → slice_get columns b ≡ Some column → slice_get channels b ≡ Some channel → (k : ℕ) (x : Sender M) → slice_get column k ≡ Some x
      → (told : List ℕ) × (x ≡ lane_at channel k (sent k b) told)
  column_at n channels sent columns are b column channel e f k x g =
      let cell = are.cells b k column channel e f (omega (arith, are.widths b column e, slice_get_within column k x g)) in
      (cell.0, same_at column k x (lane_at channel k (sent k b) cell.0) g cell.1)

  -- each channel may be closed
  pub all_lanes : (n : ℕ) (channels : List (Channel M)) (sent : ℕ → ℕ → List M) (columns : List (List (Sender M))) → 0 < n → AreColumns n channels sent columns
      → All AreSenders columns
  all_lanes n channels sent columns some are = All-at AreSenders columns (λ b column e.
      let l = at channels b (omega (arith, are.count, slice_get_within columns b column e)) in
      lanes_by column l.value (omega (arith, are.widths b column e, some)) (λ k x g.
      let same = column_at n channels sent columns are b column l.value e l.is k x g in
      (ap (λ (v : Sender M). v.channel) same.1, ap (λ (v : Sender M). v.number) same.1)))

  first_channel : (channel other : Channel M) (column : List (Sender M)) (x : Sender M) → AreSendersOf channel column → slice_get column 0 ≡ Some x
      → channel ≡ x.channel
  first_channel channel other [] x is e = let bad : ◌≡◌ {A = Option (Sender M)} None (Some x) = e in absurd (cc)
  first_channel channel other (y ∷ ys) x is e = let s : ◌≡◌ {A = Option (Sender M)} (Some y) (Some x) = e in let t : y ≡ x = cc in
      sym is.0 ∙ ap (λ (v : Sender M). v.channel) t

  pub all_closed : (n : ℕ) (channels : List (Channel M)) (sent : ℕ → ℕ → List M) (columns : List (List (Sender M))) (closed : List (Sent M)) → 0 < n
      → AreColumns n channels sent columns → AllZip IsShut columns closed
      → AreClosedWith n channels sent closed
  all_closed n channels sent columns closed some are shut = record {
    count = sym (AllZip-length IsShut columns closed shut) ∙ are.count;
    each = λ b channel c f e.
        let col = at columns b (omega (arith, are.count, slice_get_within channels b channel f)) in
        let one = zip_at IsShut columns closed shut b col.value c col.is e in
        let first = are.cells b 0 col.value channel col.is f some in record {
          channel_is = first_channel c.channel channel col.value (lane_at channel 0 (sent 0 b) first.0) one.channel first.1;
          count = ap length one.sent ∙ (length-map col.value (λ (x : Sender M). x.sent) ∙ are.widths b col.value col.is);
          each = λ k below.
              let cell = are.cells b k col.value channel col.is f below in
              ap (λ l. slice_get l k) one.sent ∙ at_map (λ (x : Sender M). x.sent) col.value k (lane_at channel k (sent k b) cell.0) cell.1;
        };
  }

  -- each channel is closed with the times that its lanes were told
  pub all_times : (rows columns : List (List (Sender M))) (closed : List (Sent M)) → IsTransposed rows columns → AllZip IsShut columns closed
      → HaveTimes rows closed
  all_times rows columns closed turn shut k b row sender c e f g =
      let col = at columns b (omega (arith, AllZip-length IsShut columns closed shut, slice_get_within closed b c g)) in
      let one = zip_at IsShut columns closed shut b col.value c col.is g in
      let cell = turned_at rows columns k b row col.value sender turn e col.is f in
      ap (λ l. slice_get l k) one.sent_at ∙ at_map (λ (x : Sender M). x.sent_at) col.value k sender cell

  grown_cell : (old new : Sender M) (channel : Channel M) (k : ℕ) (more : List M) (told : List ℕ) → old ≡ lane_at channel k [] told
      → new.channel ≡ old.channel → new.number ≡ old.number → new.sent ≡ old.sent ++ more → new.gone ≡ false
      → new ≡ lane_at channel k more new.sent_at
  grown_cell old new channel k more told is a b c d =
      let l : new.channel ≡ channel = a ∙ ap (λ (o : Sender M). o.channel) is in
      let n : new.number ≡ k = b ∙ ap (λ (o : Sender M). o.number) is in
      let s : new.sent ≡ more = c ∙ ap (λ (o : Sender M). o.sent ++ more) is in
      λ i. record { channel = l i; number = n i; sent = s i; sent_at = new.sent_at; gone = d i }

  -- the lanes have given
  pub rows_given : (n : ℕ) (channels : List (Channel M)) (sent : ℕ → ℕ → List M) (rows rows_after : List (List (Sender M))) → AreRows n channels none rows
      → length rows_after ≡ n
      → ((k : ℕ) (row row' : List (Sender M)) → slice_get rows k ≡ Some row → slice_get rows_after k ≡ Some row' → HasGiven (sent k) row row')
      → AreRows n channels sent rows_after
  rows_given n channels sent rows rows_after are count given = record {
    count = count;
    widths = λ k row' e.
        let r = at rows k (omega (arith, are.count, count, slice_get_within rows_after k row' e)) in
        (given k r.value row' r.is e).as_many ∙ are.widths k r.value r.is;
    cells = λ k b row' channel e f.
        let r = at rows k (omega (arith, are.count, count, slice_get_within rows_after k row' e)) in
        let g = given k r.value row' r.is e in
        let old = are.cells k b r.value channel r.is f in
        let was : Sender M = lane_at channel k [] old.0 in
        let new = at row' b (omega (arith, g.as_many, slice_get_within r.value b was old.1)) in
        let one = g.each b was new.value old.1 new.is in
        (new.value.sent_at, new.is ∙ ap (λ v. Some v) (grown_cell was new.value channel k (sent k b) old.0 refl one.0 one.1 one.2 one.3));
  }

  -- two accounts of the same rows are of as many channels
  pub channels_count : (n : ℕ) (channels others : List (Channel M)) (sent given : ℕ → ℕ → List M) (rows : List (List (Sender M))) → 0 < n
      → AreRows n channels sent rows → AreRows n others given rows → length channels ≡ length others
  channels_count n channels others sent given rows some are were =
      let r = at rows 0 (omega (arith, are.count, some)) in sym (are.widths 0 r.value r.is) ∙ were.widths 0 r.value r.is
