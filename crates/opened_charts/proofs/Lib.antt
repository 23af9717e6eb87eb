mod LateStates
