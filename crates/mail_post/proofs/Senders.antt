-- The senders of one channel, for callers.
use Rattle.std.proofs.Common.{◌≡◌, false, ◌+◌, ◌<◌, ℕ, zero, suc, List, [], ◌∷◌, ◌++◌, length, get_or, set, refl, sym, ap, ◌∙◌, arith, add-zero, add-one}
use Rattle.std.proofs.Common.{slice_index_or, ⊎_elim, ◌⊎◌, length-append}
use Rattle.std.proofs.lemmas.List.{get_or_append_left, length-map}
use Rattle.mail_post.specs.Channel.{Channel, Sender, AreSendersFrom, new_senders, sent_by}

below_or_last : (k n : ℕ) → k < suc n → (k < n) ⊎ (k ≡ n)
below_or_last k n l = grind arith

at_last : {A : Type 0} (xs : List A) (x d : A) → slice_index_or (xs ++ x ∷ []) (length xs) d ≡ x
at_last [] x d = refl
at_last (y ∷ xs) x d = at_last xs x d

module _ {M : Type 0} where
  -- lane j of those of one channel
  pub lane_at : (i : ℕ) (channel : Channel M) (xs : List (Sender M)) (j : ℕ) (d : Sender M) → AreSendersFrom i channel xs → j < length xs
      → ((get_or xs j d).channel ≡ channel) × ((get_or xs j d).number ≡ i + j)
  lane_at i channel [] j d h l = absurd (omega arith)
  lane_at i channel (x ∷ xs) zero d h l = (h.0, h.1 ∙ sym (add-zero i))
  lane_at i channel (x ∷ xs) (suc j) d h l = let r = lane_at (i + 1) channel xs j d h.2 (omega arith) in (r.0, r.1 ∙ omega arith)

  -- the same lanes, with what j was told since
  pub lanes_set : (i : ℕ) (channel : Channel M) (xs : List (Sender M)) (j : ℕ) (y : Sender M) → AreSendersFrom i channel xs → j < length xs
      → y.channel ≡ channel → y.number ≡ i + j → AreSendersFrom i channel (set xs j y)
  lanes_set i channel [] j y h l a b = tt
  lanes_set i channel (x ∷ xs) zero y h l a b = (a, b ∙ add-zero i, h.2)
  lanes_set i channel (x ∷ xs) (suc j) y h l a b = (h.0, h.1, lanes_set (i + 1) channel xs j y h.2 (omega arith) a (b ∙ omega arith))

  lanes_snoc : (i : ℕ) (channel : Channel M) (xs : List (Sender M)) (y : Sender M) → AreSendersFrom i channel xs → y.channel ≡ channel
      → y.number ≡ i + length xs → AreSendersFrom i channel (xs ++ y ∷ [])
  lanes_snoc i channel [] y h a b = (a, b ∙ add-zero i, tt)
  lanes_snoc i channel (x ∷ xs) y h a b = (h.0, h.1, lanes_snoc (i + 1) channel xs y h.2 a (b ∙ omega arith))

  pub length-new_senders : (channel : Channel M) (n : ℕ) → length (new_senders channel n) ≡ n
  length-new_senders channel zero = refl
  length-new_senders channel (suc n) =
      length-append (new_senders channel n) (record { channel = channel; number = n; sent = []; sent_at = []; gone = false } ∷ [])
      ∙ (let h = length-new_senders channel n in omega arith)

  -- the senders that a channel begins with
  pub lanes_fresh : (channel : Channel M) (n : ℕ) → AreSendersFrom 0 channel (new_senders channel n)
  lanes_fresh channel zero = tt
  lanes_fresh channel (suc n) = lanes_snoc 0 channel (new_senders channel n) (record { channel = channel; number = n; sent = []; sent_at = []; gone = false })
      (lanes_fresh channel n) refl (let h = length-new_senders channel n in omega arith)

  -- one more lane
  pub fresh_more : (channel next : Channel M) (n : ℕ) (xs ys : List (Sender M)) (x : Sender M) → xs ≡ new_senders channel n → ys ≡ xs ++ x ∷ [] → channel ≡ next
      → x.channel ≡ next → x.number ≡ n → x.sent ≡ [] → x.sent_at ≡ [] → x.gone ≡ false → ys ≡ new_senders next (n + 1)
  fresh_more channel next n xs ys x was pushed same a b e f sound =
      pushed ∙ (λ i. was i ++ x ∷ []) ∙ (λ i. new_senders (same i) n ++ record { channel = a i; number = b i; sent = e i; sent_at = f i; gone = sound i } ∷ [])
      ∙ ap (new_senders next) (sym (add-one n))

  -- lane k of those that a channel begins with
  pub fresh_at : (channel : Channel M) (n k : ℕ) (d : Sender M) → k < n
      → slice_index_or (new_senders channel n) k d ≡ record { channel = channel; number = k; sent = []; sent_at = []; gone = false }
  fresh_at channel zero k d l = absurd (omega arith)
  fresh_at channel (suc n) k d l =
      let len : length (new_senders channel n) ≡ n = length-new_senders channel n in
      let last : Sender M = record { channel = channel; number = n; sent = []; sent_at = []; gone = false } in
      ⊎_elim
      (λ (low : k < n). get_or_append_left (new_senders channel n) (last ∷ []) d k (omega arith) ∙ fresh_at channel n k d low)
      (λ (is : k ≡ n). ap (λ (j : ℕ). slice_index_or (new_senders channel n ++ last ∷ []) j d) (is ∙ sym len) ∙ at_last (new_senders channel n) last d
      ∙ (λ i. record { channel = channel; number = sym is i; sent = []; sent_at = []; gone = false }))
      (below_or_last k n l)
