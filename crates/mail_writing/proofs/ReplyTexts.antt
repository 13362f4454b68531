-- Texts joined from pieces, and what stands after a text that was written.
use Rattle.std.proofs.Common.{◌≡◌, ◌+◌, ◌-◌, ◌≤◌, ℕ, Bool, true, false, List, [], ◌++◌, length, take, drop, refl, ap, sym, ◌∙◌, append_assoc, arith, if◌then◌else◌}
use Rattle.std.proofs.lemmas.List.{drop-drop, take-append-le}
use Rattle.std.proofs.lemmas.List.{length-append}
use Rattle.std.specs.Prelude.{codes, decimal}
use Rattle.std.specs.Fmt.{digits}
use Rattle.mail_world.specs.declared.Reply.{Reply}
use Rattle.mail_world.specs.declared.Reply.TheVariants as replies
use Rattle.mail_world.specs.Site.{Site}
use Rattle.mail_world.specs.Text.{crlf}
use Rattle.mail_world.specs.Replies.{line, reply_text}
use Rattle.mail_writing.specs.Offer.{offers}

pub greeting-is : (site : Site) (reply : Reply) → reply ≡ replies.Greeting
    → codes "220 " ++ site.host ++ codes " LMTP ready\r\n" ≡ reply_text site reply
unfolding reply_text
greeting-is site reply e = rw e (simp append_assoc)

two-joined : (name a b c : List ℕ) → name ++ a ++ b ++ c ≡ name ++ (a ++ b ++ c)
two-joined name a b c = simp append_assoc

joined : (name a b c e d f : List ℕ) → name ++ a ++ b ++ c ++ e ++ d ++ f ≡ name ++ (a ++ b ++ c ++ e ++ d ++ f)
joined name a b c e d f = simp append_assoc

-- the offer's lines, where a line for UTF-8 stands among them or nothing does
told_with : (utf8 : Bool) (name limit : List ℕ)
    → name ++ (offers utf8 ++ limit ++ crlf)
    ≡ name ++ crlf ++ line (codes "250-PIPELINING") ++ line (codes "250-ENHANCEDSTATUSCODES")
    ++ line (codes "250-8BITMIME") ++ (if utf8 then line (codes "250-SMTPUTF8") else []) ++ line (codes "250 SIZE " ++ limit)
told_with true name limit = sym (rw (joined name) refl)
told_with false name limit = sym (rw (joined name) refl)

offer-told : (site : Site) → codes "250-" ++ (site.host ++ (offers site.utf8 ++ decimal site.message_limit ++ crlf)) ≡ reply_text site replies.Offer
unfolding reply_text digits
offer-told site = ap (λ t. codes "250-" ++ t) (told_with site.utf8 site.host (decimal site.message_limit))

pub offer-put : (site : Site) (host limit told a b c d e : List ℕ) → a ≡ codes "250-" → b ≡ a ++ host
    → c ≡ b ++ told → d ≡ c ++ limit → e ≡ d ++ crlf
    → host ≡ site.host → limit ≡ decimal site.message_limit → told ≡ offers site.utf8 → e ≡ reply_text site replies.Offer
offer-put site host limit told a b c d e ha hb hc hd he is-host is-limit is-told =
    he ∙ ap (λ t. t ++ crlf) (hd ∙ ap (λ t. t ++ limit) (hc ∙ ap (λ t. t ++ told) (hb ∙ ap (λ t. t ++ host) ha)))
    ∙ ap (λ h. codes "250-" ++ h ++ told ++ limit ++ crlf) is-host
    ∙ ap (λ l. codes "250-" ++ site.host ++ told ++ l ++ crlf) is-limit
    ∙ ap (λ t. codes "250-" ++ site.host ++ t ++ decimal site.message_limit ++ crlf) is-told
    ∙ ap (λ t. codes "250-" ++ t) (two-joined site.host (offers site.utf8) (decimal site.message_limit) crlf)
    ∙ offer-told site

-- what is the same from a place on is the same from each later one
pub drop-later : (i j : ℕ) (xs ys : List ℕ) → i ≤ j → drop i xs ≡ drop i ys → drop j xs ≡ drop j ys
drop-later i j xs ys h e =
    let far : j ≡ i + (j - i) = omega arith in
    rw (far, ← drop-drop (j - i) i xs, ← drop-drop (j - i) i ys, e) refl

-- the code of a text in three pieces, and of the offer
pub code_of_pieces : (prefix name back text : List ℕ) → 3 ≤ length prefix → prefix ++ name ++ back ≡ text → take 3 prefix ≡ take 3 text
code_of_pieces prefix name back text h e =
    let within : 3 ≤ length (prefix ++ name) = omega (arith, h, length-append prefix name) in
    sym (take-append-le 3 prefix name h) ∙ sym (take-append-le 3 (prefix ++ name) back within) ∙ ap (take 3) e

pub code_of_offer : (site : Site) (reply : Reply) → reply ≡ replies.Offer → codes "250" ≡ take 3 (reply_text site reply)
unfolding reply_text
code_of_offer site reply e = rw e refl
