-- Text that is gathered piece by piece, and goes out by and by.
use Rattle.std.proofs.Common.{◌≡◌, ℕ, List, [], ◌++◌, length, take, Result, Ok, Err, refl, ap}
use Rattle.std.proofs.Common.{sym, subst, ◌∙◌, append_assoc, append-nil}
use Rattle.std.proofs.Math.Seq.{take-append_seam}
use Rattle.std.specs.Result.{IsErr}
use Rattle.js_doc.specs.BytesOut.{Goes, Progress, Puts, Stops}
use Rattle.js_doc.proofs.BytesGone.{Wrote, ends, stops}
use Rattle.js_tree.proofs.Pieces.{nothing_goes, then_puts}
use Rattle.js_tree.specs.code.Gathering.{GathersOrStops, Gathers}

-- ---- two texts, one after the other

passes_then : (a b c : Progress) (p q r s t : List ℕ) → Gathers a b p q s → Gathers b c q r t → Gathers a c p r (s ++ t)
passes_then a b c p q r s t g h =
    let w : Wrote a b h.0 (g.0 ++ h.0) = record { written = g.0; goes = g.1; is = refl } in (
      g.0 ++ h.0,
      ends a b c h.0 (g.0 ++ h.0) w h.1,
      sym (append_assoc p s t)
          ∙ (ap (λ l. l ++ t) g.2 ∙ (append_assoc g.0 q t ∙ (ap (λ l. g.0 ++ l) h.2 ∙ sym (append_assoc g.0 h.0 r)))),
    )

stops_behind : (a b c : Progress) (p q s t : List ℕ) → Gathers a b p q s → Stops b c (q ++ t)
    → Stops a c (p ++ (s ++ t))
stops_behind a b c p q s t g h =
    let w : Wrote a b ((q ++ t) ++ []) (g.0 ++ (q ++ t)) =
    record { written = g.0; goes = g.1; is = ap (λ l. g.0 ++ l) (append-nil (q ++ t)) } in
    subst (Stops a c) (sym (append_assoc g.0 q t) ∙ (ap (λ l. l ++ t) (sym g.2) ∙ append_assoc p s t))
    (stops a b c (q ++ t) [] (g.0 ++ (q ++ t)) w h)

stops_within : (a b : Progress) (p s t : List ℕ) → Stops a b (p ++ s) → Stops a b (p ++ (s ++ t))
stops_within a b p s t h =
    let w : Wrote a a ((p ++ s) ++ t) (p ++ (s ++ t)) =
    record { written = []; goes = nothing_goes a; is = append_assoc p s t } in
    stops a a b (p ++ s) t (p ++ (s ++ t)) w h

pub then_passed : {T E : Type 0} (a b c : Progress) (p q r s t : List ℕ) (x : Result T E) → Gathers a b p q s
    → GathersOrStops b c q r t x → GathersOrStops a c p r (s ++ t) x
then_passed a b c p q r s t (Ok x) g h = passes_then a b c p q r s t g h
then_passed a b c p q r s t (Err e) g h = stops_behind a b c p q s t g h

pub stopped_in : {T E : Type 0} (a b : Progress) (p r s t : List ℕ) (x : Result T E) → IsErr x → Stops a b (p ++ s)
    → GathersOrStops a b p r (s ++ t) x
stopped_in a b p r s t (Ok x) e h = absurd cc
stopped_in a b p r s t (Err x) e h = stops_within a b p s t h

pub stopped_last : {T E : Type 0} (a b : Progress) (p r s : List ℕ) (x : Result T E) → IsErr x → Stops a b (p ++ s)
    → GathersOrStops a b p r s x
stopped_last a b p r s (Ok x) e h = absurd cc
stopped_last a b p r s (Err x) e h = h

-- ---- a text that is gathered, or goes out behind what was gathered

pub stays_gathered : (a : Progress) (p q text : List ℕ) → q ≡ p ++ text → Gathers a a p q text
stays_gathered a p q text e = ([], nothing_goes a, sym e)

gathered_before : (n : ℕ) (p found part : List ℕ) → n ≡ length p → found ≡ p ++ part → take n found ≡ p
gathered_before n p found part m e = ap (λ k. take k found) m ∙ (ap (take (length p)) e ∙ take-append_seam p part)

pub stops_gathered : {T E : Type 0} (a b : Progress) (n : ℕ) (p r found part text : List ℕ) (x : Result T E)
    → n ≡ length p → found ≡ p ++ part → IsErr x → Stops a b (take n found) → GathersOrStops a b p r text x
stops_gathered a b n p r found part text (Ok x) m e i h = absurd cc
stops_gathered a b n p r found part text (Err x) m e i h =
    stops_within a b [] p text (subst (Stops a b) (gathered_before n p found part m e) h)

all_out : {T E : Type 0} (a c : Progress) (p r text : List ℕ) (x : Result T E) → r ≡ [] → Puts a c (p ++ text) x
    → GathersOrStops a c p r text x
all_out a c p r text (Ok x) e h = (p ++ text, h, sym (ap (λ l. (p ++ text) ++ l) e ∙ append-nil (p ++ text)))
all_out a c p r text (Err x) e h = h

pub goes_behind : {T E : Type 0} (a b c : Progress) (n : ℕ) (p r found part text : List ℕ) (x : Result T E) → n
    ≡ length p → found ≡ p ++ part → r ≡ [] → Goes a b (take n found) → Puts b c text x → GathersOrStops a c p r text x
goes_behind a b c n p r found part text x m e i g h =
    all_out a c p r text x i (then_puts a b c p text x (subst (Goes a b) (gathered_before n p found part m e) g) h)

-- ---- text by text

-- what is left of all
pub record LeftToPass (old : Progress) (new : Progress) (before : List ℕ) (after : List ℕ) (left : List ℕ)
    (all : List ℕ) : Type 0 where
  pub text : List ℕ
  pub passes : Gathers old new before after text
  pub is : text ++ left ≡ all

pub none_passed : (a : Progress) (p all : List ℕ) → LeftToPass a a p p all all
none_passed a p all = record { text = []; passes = ([], nothing_goes a, append-nil p); is = refl }

pub one_passed : (a b c : Progress) (p q r s left all : List ℕ) → LeftToPass a b p q (s ++ left) all → Gathers b c q r s
    → LeftToPass a c p r left all
one_passed a b c p q r s left all w h =
    record {
      text = w.text ++ s;
      passes = passes_then a b c p q r w.text s w.passes h;
      is = append_assoc w.text s left ∙ w.is;
    }

pub pass_stops : {T E : Type 0} (a b c : Progress) (p q r s left all : List ℕ) (x : Result T E) → IsErr x
    → LeftToPass a b p q (s ++ left) all → Stops b c (q ++ s) → GathersOrStops a c p r all x
pass_stops a b c p q r s left all x e w h =
    stopped_last a c p r all x e
    (subst (λ l. Stops a c (p ++ l)) (append_assoc w.text s left ∙ w.is)
    (stops_within a c p (w.text ++ s) left (stops_behind a b c p q w.text s w.passes h)))

pub all_passed : (a b : Progress) (p q all : List ℕ) → LeftToPass a b p q [] all → Gathers a b p q all
all_passed a b p q all w = subst (Gathers a b p q) (sym (append-nil w.text) ∙ w.is) w.passes

pub same_to_pass : (a b : Progress) (p q left more all : List ℕ) → LeftToPass a b p q left all → left ≡ more
    → LeftToPass a b p q more all
same_to_pass a b p q left more all w e = subst (λ l. LeftToPass a b p q l all) e w

-- ---- where nothing was gathered before

pub rest_goes : {T E : Type 0} (a b c : Progress) (p q text : List ℕ) (x : Result T E) → p ≡ [] → Gathers a b p q text
    → Puts b c q x → Puts a c text x
rest_goes a b c p q text x e g h =
    subst (λ l. Puts a c l x) (sym g.2 ∙ ap (λ l. l ++ text) e) (then_puts a b c g.0 q x g.1 h)

pub stopped_before : {T E : Type 0} (a b : Progress) (p text : List ℕ) (x : Result T E) → p ≡ [] → IsErr x
    → Stops a b (p ++ text) → Puts a b text x
stopped_before a b p text (Ok x) e i h = absurd cc
stopped_before a b p text (Err x) e i h = subst (λ l. Stops a b (l ++ text)) e h
