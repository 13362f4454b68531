-- A walk by hand, since a struct with ghost data is made: two locals are written, and what the result lists is picked.
use Rattle.std.proofs.Common.{[], ◌∷◌, refl}
use Rattle.std.proofs.raw_atomic.Walks.{proved}
use mir.Syntax.{a_type, dcons, dnil}
use mir.Val.{Val, vstruct, vcons, vnil}
use mir.MapTy.{inst_fn}
use base.Fml.{Fml, ftrue}
use types.Kit.{‵, raw, ◌⊛◌, ◌$◌, ◌∵◌, !, qed, done, move, keep, use0, split, suffices}
use types.Run.{enter, no_more, and_then, returns}
use types.ByLocal.{alloc_all, pass_all, free_all, look_at, get, sets}
use types.Part.{agg}
use contract.Running.{tables}
use denote.Param.{bounded}
use denote.Shadow.{makes_shadow}
use denote.Steps.{nothing}
use denote.Triple.Entry.{alive}
use denote.Triple.Walked.{walk_of, says, ends_at}
use Rattle.mbox_spool.specs.TurnLog.{TurnLog}
use Rattle.mbox_spool.specs.contracts.turns.Turns as Turns
use Rattle.mbox_spool.specs.contracts.turns.Turns.listing as f
use Rattle.mbox_spool.proofs.turns.Turns.listing.Statement.{statement}
use Rattle.mbox_spool.proofs.turns.Turns.listing.Code as code

-- the result in the machine: a struct of one field, which is a struct of none
abbrev bytes : Val
bytes = vstruct (vcons (vstruct vnil) vnil)

-- and what clauses see of it
abbrev listed : TurnLog → Turns.the_row.Denot
listed log = record { marker = record {}; log = log }

-- all that it owns
abbrev owned : TurnLog → Fml
owned log = Turns.the_row.own_val (listed log) (bytes ∷ [])

pub listing_spec : {M : Type 1} → statement M
listing_spec 𝓤 𝓛 𝓜 𝓡 wired L _ bound dict _ =
    let ended = f.ended L bound dict in let c = f.clauses L bound dict 𝓛 𝓜.mem 𝓡.returns in
    let W = walk_of 𝓛 ended tt c in let 𝓣 = tables 𝓤 𝓛.H 𝓜 𝓡 𝓡.env in
    let at = bounded (a_type ∷ []) (L, tt) (dcons dict dnil) in
    proved 𝓛 ended tt c 𝓜 𝓡 tt (f.Key.name at) (inst_fn at code.function) (code.unfolded 𝓤 𝓛.H 𝓜 𝓡 wired (L, tt) dict)
    (λ κs. tt) (λ κs. tt) (λ κs qs bounds a ghost are.
    let y : W.Ghost = ((κs, qs, bounds, a, tt), ghost) in
    qed 𝓛 ((raw (alive 𝓛 ended.signature κs qs) ⊛ ‵ ftrue) ∷ raw ((c κs a).requires ghost) ∷ []) ∵
    split ! $ keep ! (0 ∷ []) $
    -- [the tokens]
    enter ! _ _ _ _ _ $ alloc_all ! (λ l. pass_all ! refl tt $
    sets ! (agg ! (no_more !)) refl (tt, tt) $
    sets ! (agg ! (and_then ! (get ! refl) (no_more !))) refl (tt, (tt, tt)) $
    -- the ghost data is made of nothing
    use0 𝓛 (‵ (owned bound.log)) (makes_shadow 𝓛 (owned bound.log) ((λ vss. (tt, ((λ uss. (tt, tt)), tt))), tt)
    (((vstruct vnil ∷ [], tt), (refl, ((tt, (refl, tt)), tt))), tt)) $ nothing ! $
    -- [no parameters; the result; the tokens; the locals]
    returns ! (look_at ! 0 refl) $ free_all ! refl $ move ! (2 ∷ 0 ∷ 1 ∷ []) $
    suffices ! _ (ends_at 𝓛 ended tt c y bytes (listed bound.log) tt tt) $ says ! refl $ done !))
