mod Progress
