use Rattle.std.specs.Prelude.{take, length}
use Rattle.std.specs.contracts.snapshot.Snapshot as snapshot
use Rattle.js_eval.proofs.UnseenWalks.{refl, [], ◌∷◌, vstruct, vnil, emp, via, fst∗, tables, ‵, raw, ◌$◌, ◌∵◌, ! }
use Rattle.js_eval.proofs.UnseenWalks.{qed, move, suffices, done, no_more, returns, enter, agg, alloc_all, pass_all}
use Rattle.js_eval.proofs.UnseenWalks.{free_all, look_at, sets, owns, pure_i, types_at, alive, says, Stays, walk_of}
use Rattle.js_eval.proofs.UnseenWalks.{ends_at, proved, named, vptr, yes, shr_vals, shr_Tells, plain, stay_none_ref}
use Rattle.js_eval.proofs.UnseenWalks.{Goes-none_ref}
use Rattle.js_eval.specs.contracts.evaluation.unseen.Unseen as unseen
use Rattle.js_eval.specs.contracts.evaluation.unseen.Unseen.until as f
use Rattle.js_eval.proofs.evaluation.unseen.Unseen.until.Code as code
use Rattle.js_eval.proofs.evaluation.unseen.Unseen.until.Statement.{statement}

abbrev stayed : Stays f.ended.signature.params f.ended.kept
stayed = (
  stay_none_ref (0 ∷ []) tt (plain (λ _. unseen.the_row)) yes,
  (stay_none_ref (1 ∷ []) tt (plain (λ _. snapshot.the_row unseen.the_row)) yes, tt),
)

pub until_spec : {M : Type 1} → statement M
until_spec 𝓤 𝓛 𝓜 𝓡 wired =
    let c = f.clauses 𝓛 𝓜.mem 𝓡.returns in let 𝓣 = tables 𝓤 𝓛.H 𝓜 𝓡 𝓡.env in
    proved 𝓛 f.ended stayed c 𝓜 𝓡 (
      Goes-none_ref 𝓛 2 (0 ∷ []) tt (plain (λ _. unseen.the_row)) yes,
      (Goes-none_ref 𝓛 2 (1 ∷ []) tt (plain (λ _. snapshot.the_row unseen.the_row)) yes, tt),
    ) f.Key.name code.function (code.unfolded 𝓤 𝓛.H 𝓜 𝓡 wired) (λ κs. (shr_vals, (shr_vals, tt))) (λ κs.
    (shr_Tells (named 0) κs.0 unseen.the_row, (shr_Tells (named 1) κs.1.0 (snapshot.the_row unseen.the_row), tt)))
    (λ κs qs bounds a g are. let p = vptr a.0.ref_ptr.0 a.0.ref_ptr.1 in let q = vptr a.1.0.ref_ptr.0 a.1.0.ref_ptr.1 in
    let y : (walk_of 𝓛 f.ended stayed c).Ghost = ((κs, qs, bounds, a, (p ∷ [], (q ∷ [], tt))), g) in
    via 𝓤 _ (fst∗ 𝓤 _ (emp 𝓤)) (qed 𝓛 (raw (alive 𝓛 f.signature κs qs) ∷
    ‵ (owns (types_at f.signature.params κs) a y.0.4) ∷ []) ∵ enter ! 𝓣.C 𝓣.Λ code.function (p ∷ q ∷ []) _ $
    alloc_all ! (λ l. pass_all ! refl ((tt, tt), ((tt, tt), tt)) $ sets ! (agg ! (no_more !)) refl (tt, tt) $
    returns ! (look_at ! 0 refl) $ free_all ! refl $ suffices ! _ (ends_at 𝓛 f.ended stayed c y (vstruct vnil) (record
    { items = take (length a.1.0.now.value.items) a.0.now.items }) (tt, (tt, tt)) (tt, (tt, tt))) $ says ! refl $
    pure_i ! (unseen.the_row.own_val (record { items = take (length a.1.0.now.value.items) a.0.now.items })
    (vstruct vnil ∷ [])) ((λ vss. (tt, tt)), tt) ((tt, (refl, tt)), tt) $ move ! (1 ∷ 2 ∷ 0 ∷ []) $ done !)))
