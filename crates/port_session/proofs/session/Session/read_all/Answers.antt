use Rattle.std.proofs.Common.{◌≡◌, ℕ, Bool, true, false, List, [], Option, Some, None, IfSome, take, refl, sym, ap, subst, ◌∙◌, arith}
use Rattle.std.proofs.lemmas.List.{length-take-le}
use Rattle.lists.proofs.Results.{on_err}
use Rattle.wan_edge.specs.Frames.{Answer, IsCutAnswer}
use Rattle.wan_edge.specs.Ports.{FailsToHear, GoesOn, Hears, LooksAt, PortTrace, Steps}
use Rattle.wan_edge.specs.Streams.{Appends}
use Rattle.wan_edge.proofs.Chains.{Appends-nothing, stays}
use Rattle.std.specs.List.{All}
use Rattle.wan_edge.proofs.Faults.{rose_since}
use Rattle.port_session.specs.Reading.{Stream}
use Rattle.port_session.specs.Sessions.{HearsAnswers, Listening, SessionView, listening}
use Rattle.port_session.specs.Standing.{EndsWith, StandsIn}
use Rattle.port_session.specs.declared.fault.SessionFault.{SessionFault}
use Rattle.port_session.specs.declared.fault.SessionFault.TheVariants as fault
use Rattle.port_session.proofs.Chaining.{if_err}
use Rattle.port_session.proofs.Hearing.{heard_all, heard_late, heard_quiet, hears_further, hears_none, hears_nothing, hears_on, nearer}
use Rattle.port_session.proofs.Standing.{ends-still, told-stand}
use Rattle.port_session.proofs.session.Session.read_all.Goals as goal

-- a port that was ready is as it was
as_ready : (ready : Bool) (before now : PortTrace) → ready ≡ true → LooksAt ready before now → now ≡ before
as_ready ready before now is looked = subst (λ (b : Bool). LooksAt b before now) is looked

-- and what comes of a hear after that comes of it from before the look on
gives_from : (n : ℕ) (into : List ℕ) (before mid now : PortTrace) → mid ≡ before → Hears n into mid now → Hears n into before now
gives_from n into before mid now same given = subst (λ (t : PortTrace). Hears n into t now) same given

fails_from : (before mid now : PortTrace) → mid ≡ before → FailsToHear mid now → FailsToHear before now
fails_from before mid now same fails = subst (λ (t : PortTrace). FailsToHear t now) same fails

steps_from : (before mid now : PortTrace) → mid ≡ before → Steps mid now → Steps before now
steps_from before mid now same step = subst (λ (t : PortTrace). Steps t now) same step

-- where a port wasn't ready
as_unready : (ready : Bool) (before now : PortTrace) → ready ≡ false → LooksAt ready before now → LooksAt false before now
as_unready ready before now is looked = subst (λ (b : Bool). LooksAt b before now) is looked

-- the end of what was heard, where nothing more came
ends_same : (kept : List ℕ) (before now : Option (List ℕ)) → now ≡ before → EndsWith kept before → EndsWith kept now
ends_same kept before now same ends = subst (EndsWith kept) (sym same) ends

-- where nothing came of a hear
nothing_came : (n : ℕ) (into : List ℕ) (before now : Option (List ℕ)) → n ≡ 0 → Appends before (take n into) now → now ≡ before
nothing_came n into before now zero given =
    let silent : Appends before [] now = subst (λ (m : ℕ). Appends before (take m into) now) zero given in
    silent ∙ sym (Appends-nothing before)

pub loop-buffer-init : goal.loop-buffer-init
loop-buffer-init g c =
    let tell = g.T.Port.told in
    let now = c.args.self.now in
    let port = ap (λ (t : SessionView g.row.T.Denot). t.port) c.self.view_is in
    let stream = ap (λ (t : SessionView g.row.T.Denot). t.stream) c.self.view_is in
    let live = ap (λ (s : Stream). s.live) stream ∙ c.requires.live in
    record {
      live = live;
      ends = subst (λ (t : SessionView g.row.T.Denot). EndsWith t.stream.kept (tell t.port).heard) c.self.view_is (c.self.invariant.1 live);
      cut = c.self.invariant.0 live;
      hears = subst (λ (t : SessionView g.row.T.Denot). HearsAnswers c.args.migration (listening (tell now.port).heard now.stream c.args.answers.now) None (listening (tell t.port).heard t.stream c.args.answers.now)) (sym c.self.view_is)
          (hears_nothing c.args.migration (listening (tell now.port).heard now.stream c.args.answers.now));
      quiet = ap (λ p. (tell p).quiet) port;
      waits = ap (λ p. (tell p).waits) port;
      idle = λ none. (port, stream, refl);
      switch = ap (λ (t : SessionView g.row.T.Denot). t.switch) c.self.view_is;
      port = subst (λ p. GoesOn (tell now.port) (tell p)) (sym port) (stays (tell now.port));
      unsent = ap (λ p. (tell p).offered) port;
    }

pub loop-buffer-preserved : goal.loop-buffer-preserved
loop-buffer-preserved g c =
    let tell = g.T.Port.told in
    let now = c.args.self.now in
    let inside = c.loop-buffer.self-inside in
    let i = c.loop-buffer.invariant in
    let n = c.in_ok-n.n in
    let same = as_ready c.is_ready.result (tell inside.port) (tell c.is_ready.new.self) c.if-not-is_ready.false c.is_ready.ensures in
    let given = gives_from n c.hear.new.into (tell inside.port) (tell c.is_ready.new.self) (tell c.hear.new.self) same c.in_ok-n.ensures.given in
    let step = steps_from (tell inside.port) (tell c.is_ready.new.self) (tell c.hear.new.self) same c.hear.ensures.step in
    record {
      live = c.in_ok-read.ensures.live;
      ends = i.ends;
      cut = c.in_ok-read.ensures.cut;
      hears = hears_on c.args.migration (listening (tell now.port).heard now.stream c.args.answers.now) (listening (tell inside.port).heard inside.stream c.loop-buffer.answers) (listening (tell c.hear.new.self).heard c.read.new.self c.read.new.answers) None i.hears
          (record { bytes = take n c.hear.new.into; appended = given.heard; reads = c.in_ok-read.ensures.ok });
      quiet = given.as_quiet (omega (arith, c.if-n-eq0.false)) ∙ i.quiet;
      waits = given.waits ∙ i.waits;
      idle = λ none. absurd (omega (arith, c.loop-buffer-test.true, c.count_awaited.ensures, ap (λ (s : Stream). s.awaited) (i.idle none).1, none));
      switch = i.switch;
      port = hears_further (tell now.port) (tell inside.port) (tell c.hear.new.self) (take n c.hear.new.into) i.port i.unsent given.heard given.offered step;
      unsent = given.offered ∙ i.unsent;
    }

pub loop-buffer-smaller : goal.loop-buffer-smaller
loop-buffer-smaller g c =
    let inside = c.loop-buffer.self-inside in
    let n = c.in_ok-n.n in
    let into = c.hear.new.into in
    let long = length-take-le n into (omega (arith, c.in_ok-n.ensures.within, c.hear.auto.into)) in
    nearer c.args.migration inside.stream c.read.new.self c.loop-buffer.answers c.read.new.answers (take n into) c.in_ok-read.ensures.ok c.loop-buffer.invariant.cut c.in_ok-read.ensures.cut
    (omega (arith, c.loop-buffer-test.true, c.count_awaited.ensures)) (omega (arith, long, c.if-n-eq0.false))

-- ---- the port wasn't ready
pub returns-then-not-is_ready-clause-ok : goal.returns-then-not-is_ready-clause-ok
returns-then-not-is_ready-clause-ok g c =
    let tell = g.T.Port.told in
    let inside = c.loop-buffer.self-inside in
    let i = c.loop-buffer.invariant in
    let unready = as_unready c.is_ready.result (tell inside.port) (tell c.is_ready.new.self) c.if-not-is_ready.true c.is_ready.ensures in
    heard_late c.args.migration (tell c.args.self.now.port) (tell inside.port) c.args.self.now.stream inside.stream c.args.answers.now c.loop-buffer.answers i.hears i.quiet i.live (tell c.is_ready.new.self) i.port i.waits
    (omega (arith, c.loop-buffer-test.true, c.count_awaited.ensures)) unready

pub returns-then-not-is_ready-clause-idle : goal.returns-then-not-is_ready-clause-idle
returns-then-not-is_ready-clause-idle g c =
    let i = c.loop-buffer.invariant in
    λ none. absurd (omega (arith, c.loop-buffer-test.true, c.count_awaited.ensures, ap (λ (s : Stream). s.awaited) (i.idle none).1, none))

pub returns-then-not-is_ready-clause-stands : goal.returns-then-not-is_ready-clause-stands
returns-then-not-is_ready-clause-stands g c =
    let tell = g.T.Port.told in
    let i = c.loop-buffer.invariant in
    let unready = as_unready c.is_ready.result (tell c.loop-buffer.self-inside.port) (tell c.is_ready.new.self) c.if-not-is_ready.true c.is_ready.ensures in
    let told = told-stand c.args.migration _ _ None i.ends i.hears in
    (told.0, told.1, subst (λ (o : Option (List ℕ)). All (λ (a : Answer). IfSome o (StandsIn (c.args.migration, a))) told.0) (sym unready.heard) told.2)

pub returns-then-not-is_ready-clause-port : goal.returns-then-not-is_ready-clause-port
returns-then-not-is_ready-clause-port g c =
    let tell = g.T.Port.told in
    let inside = c.loop-buffer.self-inside in
    let i = c.loop-buffer.invariant in
    let unready = as_unready c.is_ready.result (tell inside.port) (tell c.is_ready.new.self) c.if-not-is_ready.true c.is_ready.ensures in
    hears_further (tell c.args.self.now.port) (tell inside.port) (tell c.is_ready.new.self) [] i.port i.unsent (unready.heard ∙ Appends-nothing (tell inside.port).heard) unready.offered unready.step

pub returns-then-not-is_ready-clause-unsent : goal.returns-then-not-is_ready-clause-unsent
returns-then-not-is_ready-clause-unsent g c =
    let tell = g.T.Port.told in
    let unready = as_unready c.is_ready.result (tell c.loop-buffer.self-inside.port) (tell c.is_ready.new.self) c.if-not-is_ready.true c.is_ready.ensures in
    unready.offered ∙ c.loop-buffer.invariant.unsent

pub invariant_of-self-then-not-is_ready : goal.invariant_of-self-then-not-is_ready
invariant_of-self-then-not-is_ready g c =
    let tell = g.T.Port.told in
    let i = c.loop-buffer.invariant in
    let inside = c.loop-buffer.self-inside in
    let unready = as_unready c.is_ready.result (tell inside.port) (tell c.is_ready.new.self) c.if-not-is_ready.true c.is_ready.ensures in (
      λ live. i.cut,
      λ live. ends_same inside.stream.kept (tell inside.port).heard (tell c.is_ready.new.self).heard unready.heard (ends-still c.args.migration _ _ i.ends i.hears),
    )

-- ---- the port failed
pub returns-in_err-n-clause-err : goal.returns-in_err-n-clause-err
returns-in_err-n-clause-err g c =
    let tell = g.T.Port.told in
    let inside = c.loop-buffer.self-inside in
    let i = c.loop-buffer.invariant in
    let same = as_ready c.is_ready.result (tell inside.port) (tell c.is_ready.new.self) c.if-not-is_ready.false c.is_ready.ensures in
    let fails = fails_from (tell inside.port) (tell c.is_ready.new.self) (tell c.hear.new.self) same c.in_err-n.ensures.nothing in
    let before : Listening = listening (tell c.args.self.now.port).heard c.args.self.now.stream c.args.answers.now in
    let between : Listening = listening (tell inside.port).heard inside.stream c.loop-buffer.answers in
    let after : Listening = listening (tell c.hear.new.self).heard inside.stream c.loop-buffer.answers in
    if_err c.from_residual.result fault.Port (λ (f : SessionFault). HearsAnswers c.args.migration before (Some f) after) c.from_residual.ensures.1
    (hears_on c.args.migration before between after (Some fault.Port) i.hears (hears_none c.args.migration (tell inside.port).heard (tell c.hear.new.self).heard between.reckoning fails.heard))

pub returns-in_err-n-clause-as_quiet : goal.returns-in_err-n-clause-as_quiet
returns-in_err-n-clause-as_quiet g c =
    let tell = g.T.Port.told in
    let inside = c.loop-buffer.self-inside in
    let same = as_ready c.is_ready.result (tell inside.port) (tell c.is_ready.new.self) c.if-not-is_ready.false c.is_ready.ensures in
    let fails = fails_from (tell inside.port) (tell c.is_ready.new.self) (tell c.hear.new.self) same c.in_err-n.ensures.nothing in
    on_err c.from_residual.result fault.Port ((tell c.hear.new.self).quiet ≡ (tell c.args.self.now.port).quiet) c.from_residual.ensures.1 (fails.quiet ∙ c.loop-buffer.invariant.quiet)

pub returns-in_err-n-clause-cause : goal.returns-in_err-n-clause-cause
returns-in_err-n-clause-cause g c =
    let tell = g.T.Port.told in
    let inside = c.loop-buffer.self-inside in
    let i = c.loop-buffer.invariant in
    let same = as_ready c.is_ready.result (tell inside.port) (tell c.is_ready.new.self) c.if-not-is_ready.false c.is_ready.ensures in
    let fails = fails_from (tell inside.port) (tell c.is_ready.new.self) (tell c.hear.new.self) same c.in_err-n.ensures.nothing in
    λ port. rose_since (tell c.args.self.now.port).faults (tell inside.port).faults (tell c.hear.new.self).faults i.port.count fails.cause

pub returns-in_err-n-clause-idle : goal.returns-in_err-n-clause-idle
returns-in_err-n-clause-idle g c =
    let i = c.loop-buffer.invariant in
    λ none. absurd (omega (arith, c.loop-buffer-test.true, c.count_awaited.ensures, ap (λ (s : Stream). s.awaited) (i.idle none).1, none))

pub returns-in_err-n-clause-port : goal.returns-in_err-n-clause-port
returns-in_err-n-clause-port g c =
    let tell = g.T.Port.told in
    let inside = c.loop-buffer.self-inside in
    let i = c.loop-buffer.invariant in
    let same = as_ready c.is_ready.result (tell inside.port) (tell c.is_ready.new.self) c.if-not-is_ready.false c.is_ready.ensures in
    let fails = fails_from (tell inside.port) (tell c.is_ready.new.self) (tell c.hear.new.self) same c.in_err-n.ensures.nothing in
    let step = steps_from (tell inside.port) (tell c.is_ready.new.self) (tell c.hear.new.self) same c.hear.ensures.step in
    hears_further (tell c.args.self.now.port) (tell inside.port) (tell c.hear.new.self) [] i.port i.unsent (fails.heard ∙ Appends-nothing (tell inside.port).heard) fails.offered step

pub returns-in_err-n-clause-unsent : goal.returns-in_err-n-clause-unsent
returns-in_err-n-clause-unsent g c =
    let tell = g.T.Port.told in
    let inside = c.loop-buffer.self-inside in
    let same = as_ready c.is_ready.result (tell inside.port) (tell c.is_ready.new.self) c.if-not-is_ready.false c.is_ready.ensures in
    let fails = fails_from (tell inside.port) (tell c.is_ready.new.self) (tell c.hear.new.self) same c.in_err-n.ensures.nothing in
    fails.offered ∙ c.loop-buffer.invariant.unsent

pub returns-in_err-n-clause-stands : goal.returns-in_err-n-clause-stands
returns-in_err-n-clause-stands g c =
    let tell = g.T.Port.told in
    let inside = c.loop-buffer.self-inside in
    let i = c.loop-buffer.invariant in
    let same = as_ready c.is_ready.result (tell inside.port) (tell c.is_ready.new.self) c.if-not-is_ready.false c.is_ready.ensures in
    let fails = fails_from (tell inside.port) (tell c.is_ready.new.self) (tell c.hear.new.self) same c.in_err-n.ensures.nothing in
    let told = told-stand c.args.migration _ _ None i.ends i.hears in
    (told.0, told.1, subst (λ (o : Option (List ℕ)). All (λ (a : Answer). IfSome o (StandsIn (c.args.migration, a))) told.0) (sym fails.heard) told.2)

pub invariant_of-self-in_err-n : goal.invariant_of-self-in_err-n
invariant_of-self-in_err-n g c =
    let tell = g.T.Port.told in
    let inside = c.loop-buffer.self-inside in
    let i = c.loop-buffer.invariant in
    let same = as_ready c.is_ready.result (tell inside.port) (tell c.is_ready.new.self) c.if-not-is_ready.false c.is_ready.ensures in
    let fails = fails_from (tell inside.port) (tell c.is_ready.new.self) (tell c.hear.new.self) same c.in_err-n.ensures.nothing in (
      λ live. i.cut,
      λ live. ends_same inside.stream.kept (tell inside.port).heard (tell c.hear.new.self).heard fails.heard (ends-still c.args.migration _ _ i.ends i.hears),
    )

-- ---- the port was quiet
pub returns-then-n-eq0-clause-ok : goal.returns-then-n-eq0-clause-ok
returns-then-n-eq0-clause-ok g c =
    let tell = g.T.Port.told in
    let inside = c.loop-buffer.self-inside in
    let i = c.loop-buffer.invariant in
    let same = as_ready c.is_ready.result (tell inside.port) (tell c.is_ready.new.self) c.if-not-is_ready.false c.is_ready.ensures in
    let given = gives_from c.in_ok-n.n c.hear.new.into (tell inside.port) (tell c.is_ready.new.self) (tell c.hear.new.self) same c.in_ok-n.ensures.given in
    heard_quiet c.args.migration (tell c.args.self.now.port) (tell inside.port) c.args.self.now.stream inside.stream c.args.answers.now c.loop-buffer.answers i.hears i.quiet i.live (tell c.hear.new.self) c.expect.new.self c.in_ok-n.n c.hear.new.into i.port given
    c.if-n-eq0.true c.expect.ensures

pub returns-then-n-eq0-clause-cut : goal.returns-then-n-eq0-clause-cut
returns-then-n-eq0-clause-cut g c = λ live. subst (λ (s : Stream). IsCutAnswer s.kept) (sym c.expect.ensures) c.loop-buffer.invariant.cut

pub returns-then-n-eq0-clause-idle : goal.returns-then-n-eq0-clause-idle
returns-then-n-eq0-clause-idle g c =
    let i = c.loop-buffer.invariant in
    λ none. absurd (omega (arith, c.loop-buffer-test.true, c.count_awaited.ensures, ap (λ (s : Stream). s.awaited) (i.idle none).1, none))

pub returns-then-n-eq0-clause-port : goal.returns-then-n-eq0-clause-port
returns-then-n-eq0-clause-port g c =
    let tell = g.T.Port.told in
    let inside = c.loop-buffer.self-inside in
    let i = c.loop-buffer.invariant in
    let same = as_ready c.is_ready.result (tell inside.port) (tell c.is_ready.new.self) c.if-not-is_ready.false c.is_ready.ensures in
    let given = gives_from c.in_ok-n.n c.hear.new.into (tell inside.port) (tell c.is_ready.new.self) (tell c.hear.new.self) same c.in_ok-n.ensures.given in
    let step = steps_from (tell inside.port) (tell c.is_ready.new.self) (tell c.hear.new.self) same c.hear.ensures.step in
    hears_further (tell c.args.self.now.port) (tell inside.port) (tell c.hear.new.self) (take c.in_ok-n.n c.hear.new.into) i.port i.unsent given.heard given.offered step

pub returns-then-n-eq0-clause-unsent : goal.returns-then-n-eq0-clause-unsent
returns-then-n-eq0-clause-unsent g c =
    let tell = g.T.Port.told in
    let inside = c.loop-buffer.self-inside in
    let same = as_ready c.is_ready.result (tell inside.port) (tell c.is_ready.new.self) c.if-not-is_ready.false c.is_ready.ensures in
    let given = gives_from c.in_ok-n.n c.hear.new.into (tell inside.port) (tell c.is_ready.new.self) (tell c.hear.new.self) same c.in_ok-n.ensures.given in
    given.offered ∙ c.loop-buffer.invariant.unsent

pub returns-then-n-eq0-clause-stands : goal.returns-then-n-eq0-clause-stands
returns-then-n-eq0-clause-stands g c =
    let tell = g.T.Port.told in
    let inside = c.loop-buffer.self-inside in
    let i = c.loop-buffer.invariant in
    let same = as_ready c.is_ready.result (tell inside.port) (tell c.is_ready.new.self) c.if-not-is_ready.false c.is_ready.ensures in
    let given = gives_from c.in_ok-n.n c.hear.new.into (tell inside.port) (tell c.is_ready.new.self) (tell c.hear.new.self) same c.in_ok-n.ensures.given in
    let silent = nothing_came c.in_ok-n.n c.hear.new.into (tell inside.port).heard (tell c.hear.new.self).heard c.if-n-eq0.true given.heard in
    let told = told-stand c.args.migration _ _ None i.ends i.hears in
    (told.0, told.1, subst (λ (o : Option (List ℕ)). All (λ (a : Answer). IfSome o (StandsIn (c.args.migration, a))) told.0) (sym silent) told.2)

pub invariant_of-self-then-n-eq0 : goal.invariant_of-self-then-n-eq0
invariant_of-self-then-n-eq0 g c =
    let tell = g.T.Port.told in
    let inside = c.loop-buffer.self-inside in
    let i = c.loop-buffer.invariant in
    let same = as_ready c.is_ready.result (tell inside.port) (tell c.is_ready.new.self) c.if-not-is_ready.false c.is_ready.ensures in
    let given = gives_from c.in_ok-n.n c.hear.new.into (tell inside.port) (tell c.is_ready.new.self) (tell c.hear.new.self) same c.in_ok-n.ensures.given in
    let silent = nothing_came c.in_ok-n.n c.hear.new.into (tell inside.port).heard (tell c.hear.new.self).heard c.if-n-eq0.true given.heard in (
      λ live. subst (λ (s : Stream). IsCutAnswer s.kept) (sym c.expect.ensures) i.cut,
      λ live. subst (λ (s : Stream). EndsWith s.kept (tell c.hear.new.self).heard) (sym c.expect.ensures)
          (ends_same inside.stream.kept (tell inside.port).heard (tell c.hear.new.self).heard silent (ends-still c.args.migration _ _ i.ends i.hears)),
    )

-- ---- what came could not be read
pub returns-in_err-read-clause-port : goal.returns-in_err-read-clause-port
returns-in_err-read-clause-port g c =
    let tell = g.T.Port.told in
    let inside = c.loop-buffer.self-inside in
    let i = c.loop-buffer.invariant in
    let same = as_ready c.is_ready.result (tell inside.port) (tell c.is_ready.new.self) c.if-not-is_ready.false c.is_ready.ensures in
    let given = gives_from c.in_ok-n.n c.hear.new.into (tell inside.port) (tell c.is_ready.new.self) (tell c.hear.new.self) same c.in_ok-n.ensures.given in
    let step = steps_from (tell inside.port) (tell c.is_ready.new.self) (tell c.hear.new.self) same c.hear.ensures.step in
    hears_further (tell c.args.self.now.port) (tell inside.port) (tell c.hear.new.self) (take c.in_ok-n.n c.hear.new.into) i.port i.unsent given.heard given.offered step

pub returns-in_err-read-clause-unsent : goal.returns-in_err-read-clause-unsent
returns-in_err-read-clause-unsent g c =
    let tell = g.T.Port.told in
    let inside = c.loop-buffer.self-inside in
    let same = as_ready c.is_ready.result (tell inside.port) (tell c.is_ready.new.self) c.if-not-is_ready.false c.is_ready.ensures in
    let given = gives_from c.in_ok-n.n c.hear.new.into (tell inside.port) (tell c.is_ready.new.self) (tell c.hear.new.self) same c.in_ok-n.ensures.given in
    given.offered ∙ c.loop-buffer.invariant.unsent

pub returns-in_err-read-clause-as_quiet : goal.returns-in_err-read-clause-as_quiet
returns-in_err-read-clause-as_quiet g c =
    let tell = g.T.Port.told in
    let inside = c.loop-buffer.self-inside in
    let same = as_ready c.is_ready.result (tell inside.port) (tell c.is_ready.new.self) c.if-not-is_ready.false c.is_ready.ensures in
    let given = gives_from c.in_ok-n.n c.hear.new.into (tell inside.port) (tell c.is_ready.new.self) (tell c.hear.new.self) same c.in_ok-n.ensures.given in
    let fault = c.in_err-read.field-0.0 in
    on_err c.from_residual-in_err-read.result fault ((tell c.hear.new.self).quiet ≡ (tell c.args.self.now.port).quiet) c.from_residual-in_err-read.ensures.1
    (given.as_quiet (omega (arith, c.if-n-eq0.false)) ∙ c.loop-buffer.invariant.quiet)

pub returns-in_err-read-clause-idle : goal.returns-in_err-read-clause-idle
returns-in_err-read-clause-idle g c =
    let i = c.loop-buffer.invariant in
    λ none. absurd (omega (arith, c.loop-buffer-test.true, c.count_awaited.ensures, ap (λ (s : Stream). s.awaited) (i.idle none).1, none))

pub returns-in_err-read-clause-err : goal.returns-in_err-read-clause-err
returns-in_err-read-clause-err g c =
    let tell = g.T.Port.told in
    let inside = c.loop-buffer.self-inside in
    let same = as_ready c.is_ready.result (tell inside.port) (tell c.is_ready.new.self) c.if-not-is_ready.false c.is_ready.ensures in
    let given = gives_from c.in_ok-n.n c.hear.new.into (tell inside.port) (tell c.is_ready.new.self) (tell c.hear.new.self) same c.in_ok-n.ensures.given in
    let before : Listening = listening (tell c.args.self.now.port).heard c.args.self.now.stream c.args.answers.now in
    let between : Listening = listening (tell inside.port).heard inside.stream c.loop-buffer.answers in
    let after : Listening = listening (tell c.hear.new.self).heard c.read.new.self c.read.new.answers in
    let fault = c.in_err-read.field-0.0 in
    if_err c.from_residual-in_err-read.result fault (λ (f : SessionFault). HearsAnswers c.args.migration before (Some f) after) c.from_residual-in_err-read.ensures.1
    (hears_on c.args.migration before between after (Some fault) c.loop-buffer.invariant.hears (record { bytes = take c.in_ok-n.n c.hear.new.into; appended = given.heard; reads = c.in_err-read.ensures.err }))

pub returns-in_err-read-clause-stands : goal.returns-in_err-read-clause-stands
returns-in_err-read-clause-stands g c =
    let tell = g.T.Port.told in
    let inside = c.loop-buffer.self-inside in
    let i = c.loop-buffer.invariant in
    let same = as_ready c.is_ready.result (tell inside.port) (tell c.is_ready.new.self) c.if-not-is_ready.false c.is_ready.ensures in
    let given = gives_from c.in_ok-n.n c.hear.new.into (tell inside.port) (tell c.is_ready.new.self) (tell c.hear.new.self) same c.in_ok-n.ensures.given in
    let before : Listening = listening (tell c.args.self.now.port).heard c.args.self.now.stream c.args.answers.now in
    let between : Listening = listening (tell inside.port).heard inside.stream c.loop-buffer.answers in
    let after : Listening = listening (tell c.hear.new.self).heard c.read.new.self c.read.new.answers in
    let fault = c.in_err-read.field-0.0 in
    told-stand c.args.migration before after (Some fault) i.ends
    (hears_on c.args.migration before between after (Some fault) i.hears (record { bytes = take c.in_ok-n.n c.hear.new.into; appended = given.heard; reads = c.in_err-read.ensures.err }))

-- ---- all that were awaited were read
pub returns-clause-ok : goal.returns-clause-ok
returns-clause-ok g c =
    let tell = g.T.Port.told in
    let inside = c.loop-buffer.self-inside in
    let i = c.loop-buffer.invariant in
    heard_all c.args.migration (tell c.args.self.now.port) (tell inside.port) c.args.self.now.stream inside.stream c.args.answers.now c.loop-buffer.answers i.hears i.quiet i.live (omega (arith, c.loop-buffer-test.false, c.count_awaited.ensures))

pub invariant_of-self : goal.invariant_of-self
invariant_of-self g c =
    let i = c.loop-buffer.invariant in (
      λ live. i.cut,
      λ live. ends-still c.args.migration _ _ i.ends i.hears,
    )

pub returns-clause-stands : goal.returns-clause-stands
returns-clause-stands g c =
    let i = c.loop-buffer.invariant in
    told-stand c.args.migration _ _ None i.ends i.hears
