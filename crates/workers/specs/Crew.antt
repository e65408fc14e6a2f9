-- What the threads that run are to do.
use Rattle.workers.specs.declared.crew.RunningWorker.{RunningWorker}
use Rattle.workers.specs.declared.crew.RunningWorker.TheVariants.{One, Two}
use Rattle.workers.specs.Duties.{Duty}
use Rattle.workers.specs.Work.{duty_of}

abbrev pub duty_in : {M L P : Type 0} → RunningWorker M L P → Duty
duty_in (One thread) = duty_of thread.promise
duty_in (Two pair) = pair
