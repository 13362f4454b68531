-- A walk by hand, since a struct with ghost data is made. The machine writes two locals, the marker and the struct of
-- it; the list is the one that was picked, and is made of nothing.
use Rattle.std.proofs.Common.{[], ◌∷◌, refl}
use Rattle.std.proofs.raw_atomic.Walks.{proved}
use base.Fml.{Fml, ftrue}
use contract.Running.{tables}
use denote.Param.{bounded}
use denote.Shadow.{makes_shadow}
use denote.Steps.{nothing}
use denote.Triple.Entry.{alive}
use denote.Triple.Walked.{walk_of, says, ends_at}
use mir.MapTy.{inst_fn}
use mir.Syntax.{a_type, dcons, dnil}
use mir.Val.{Val, vstruct, vcons, vnil}
use types.ByLocal.{alloc_all, pass_all, free_all, look_at, get, sets}
use types.Kit.{‵, raw, ◌⊛◌, ◌$◌, ◌∵◌, !, qed, done, move, keep, use0, split, suffices}
use types.Part.{agg}
use types.Run.{enter, no_more, and_then, returns}
use Rattle.lmtpd_log.specs.History.{LogHistory}
use Rattle.lmtpd_log.specs.contracts.history.History as History
use Rattle.lmtpd_log.specs.contracts.history.History.listing as f
use Rattle.lmtpd_log.proofs.history.History.listing.Statement.{statement}
use Rattle.lmtpd_log.proofs.history.History.listing.Code as code

-- what the machine has of it: a struct of one field, which is a struct of none
abbrev bytes : Val
bytes = vstruct (vcons (vstruct vnil) vnil)

-- what clauses see of it
abbrev listed : LogHistory → History.the_row.Denot
listed list = record { marker = record {}; list = list }

-- that those bytes are such a value, which owns nothing more
abbrev owned : LogHistory → Fml
owned list = History.the_row.own_val (listed list) (bytes ∷ [])

pub listing_spec : {M : Type 1} → statement M
listing_spec 𝓤 𝓛 𝓜 𝓡 wired T _ picked dict _ =
    let machine = tables 𝓤 𝓛.H 𝓜 𝓡 𝓡.env in
    let types = bounded (a_type ∷ []) (T, tt) (dcons dict dnil) in
    let ended = f.ended T picked dict in
    let clauses = f.clauses T picked dict 𝓛 𝓜.mem 𝓡.returns in
    let walk = walk_of 𝓛 ended tt clauses in
    proved 𝓛 ended tt clauses 𝓜 𝓡 tt (f.Key.name types) (inst_fn types code.function) (code.unfolded 𝓤 𝓛.H 𝓜 𝓡 wired (T, tt) dict)
    (λ _. tt) (λ _. tt) (λ κs shares bounds args ghost _.
    let call : walk.Ghost = ((κs, shares, bounds, args, tt), ghost) in
    qed 𝓛 ((raw (alive 𝓛 ended.signature κs shares) ⊛ ‵ ftrue) ∷ raw ((clauses κs args).requires ghost) ∷ []) ∵
    split ! $ keep ! (0 ∷ []) $
    -- [the tokens]
    enter ! machine.C machine.Λ (inst_fn types code.function) [] (walk.post call) $ alloc_all ! (λ _. pass_all ! refl tt $
    sets ! (agg ! (no_more !)) refl (tt, tt) $
    sets ! (agg ! (and_then ! (get ! refl) (no_more !))) refl (tt, (tt, tt)) $
    use0 𝓛 (‵ (owned picked.list)) (makes_shadow 𝓛 (owned picked.list) ((λ _. (tt, ((λ _. (tt, tt)), tt))), tt)
    (((vstruct vnil ∷ [], tt), (refl, ((tt, (refl, tt)), tt))), tt)) $ nothing ! $
    -- [no parameters; the result; the tokens; the locals]
    returns ! (look_at ! 0 refl) $ free_all ! refl $ move ! (2 ∷ 0 ∷ 1 ∷ []) $
    suffices ! _ (ends_at 𝓛 ended tt clauses call bytes (listed picked.list) tt tt) $ says ! refl $ done !))
