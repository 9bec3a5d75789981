use Rattle.std.proofs.Common.{ℕ, ◌≡◌, ◌≢◌, ◌-◌, ◌<◌, ◌≤◌, ◌^◌, refl, sym, subst, arith}
use Rattle.subproblems.specs.declared.cutting.Cut.TheVariants.{Failed, Fixed, Parted}
use Rattle.subproblems.specs.Cuts.{IsCutInto}
use Rattle.subproblems.specs.Paths.{LeadsTo}
use Rattle.subproblems.proofs.StepLemmas.{leads_by}
use Rattle.subproblems.proofs.path.+below.Goals as goal

pub returns-in-Failed : goal.returns-in-Failed
returns-in-Failed t c =
    leads_by c.args.model.now c.args.kernels.now c.args.depth (c.args.depth - 1) c.args.b c.args.number _ (let n = c.if-depth-eq0.false in omega arith) Failed
    (subst (IsCutInto c.args.model.now c.args.kernels.now c.args.b) c.in-Failed.is c.in_ok-cut_box.ensures) refl

pub returns-then-number-eq0 : goal.returns-then-number-eq0
returns-then-number-eq0 t c =
    leads_by c.args.model.now c.args.kernels.now c.args.depth (c.args.depth - 1) c.args.b c.args.number _ (let n = c.if-depth-eq0.false in omega arith) (Fixed c.in-Fixed.closed)
    (subst (IsCutInto c.args.model.now c.args.kernels.now c.args.b) c.in-Fixed.is c.in_ok-cut_box.ensures)
    ((λ e. refl), λ ne. let h = c.if-number-eq0.true in absurd (omega arith))

pub returns-else-number-eq0 : goal.returns-else-number-eq0
returns-else-number-eq0 t c =
    leads_by c.args.model.now c.args.kernels.now c.args.depth (c.args.depth - 1) c.args.b c.args.number _ (let n = c.if-depth-eq0.false in omega arith) (Fixed c.in-Fixed.closed)
    (subst (IsCutInto c.args.model.now c.args.kernels.now c.args.b) c.in-Fixed.is c.in_ok-cut_box.ensures)
    ((λ e. let h = c.if-number-eq0.false in absurd (omega arith)), λ ne. refl)

pub returns-then-number-half : goal.returns-then-number-half
returns-then-number-half t c =
    let above = c.args.depth - 1 in
    let half = c.numbers_to-half.ensures in
    let test = c.if-number-half.true in
    leads_by c.args.model.now c.args.kernels.now c.args.depth above c.args.b c.args.number _ (let n = c.if-depth-eq0.false in omega arith) (Parted c.in-Parted.left c.in-Parted.right)
    (subst (IsCutInto c.args.model.now c.args.kernels.now c.args.b) c.in-Parted.is c.in_ok-cut_box.ensures)
    ((λ low. c.in_ok-found-in-Parted.ensures), λ high. absurd (omega arith))

pub returns-in_ok-found-in-Parted-2 : goal.returns-in_ok-found-in-Parted-2
returns-in_ok-found-in-Parted-2 t c =
    let above = c.args.depth - 1 in
    let half : c.numbers_to-half.result ≡ 2 ^ above = c.numbers_to-half.ensures in
    let test = c.if-number-half.false in
    leads_by c.args.model.now c.args.kernels.now c.args.depth above c.args.b c.args.number _ (let n = c.if-depth-eq0.false in omega arith) (Parted c.in-Parted.left c.in-Parted.right)
    (subst (IsCutInto c.args.model.now c.args.kernels.now c.args.b) c.in-Parted.is c.in_ok-cut_box.ensures) (
      (λ low. absurd (omega arith)),
      λ high. subst (λ (k : ℕ). LeadsTo c.args.model.now c.args.kernels.now above c.in-Parted.right (c.args.number - k) c.in_ok-found-in-Parted-2.found) half c.in_ok-found-in-Parted-2.ensures,
    )
